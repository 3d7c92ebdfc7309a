pub mod Values
pub mod Results
pub mod Inner
