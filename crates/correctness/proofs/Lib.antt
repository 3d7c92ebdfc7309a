pub mod Demand2
pub mod Correct
pub mod Table
pub mod Caught
pub mod Buffers
pub mod ClosedText
