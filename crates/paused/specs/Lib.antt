pub mod Memory
pub mod Responses
pub mod Inner
