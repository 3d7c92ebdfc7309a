pub mod Services
pub mod Place
pub mod Room
pub mod Results
pub mod Examples
pub mod Inner
