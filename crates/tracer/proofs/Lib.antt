pub mod Feeding
pub mod States
pub mod Begun
pub mod Lines
pub mod Taking
pub mod HandedRows
pub mod Whole
pub mod Examples
