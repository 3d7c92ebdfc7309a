pub mod Closed
pub mod Results
pub mod Claims
pub mod Inner
