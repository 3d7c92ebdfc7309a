pub mod Services
pub mod Results
pub mod Inner
