pub mod Conditions
pub mod Walks
pub mod Inner
