pub mod Clock
pub mod Services
pub mod Results
pub mod Inner
