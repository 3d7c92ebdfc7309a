pub mod Results
pub mod Inner
