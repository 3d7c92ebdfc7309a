pub mod Instalment
pub mod Inner
