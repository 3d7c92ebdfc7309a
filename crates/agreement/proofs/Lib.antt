pub mod Progress
pub mod Parts
