pub mod TraceCorrect
pub mod Demand2
pub mod Buffers
pub mod Examples
pub mod ClosedText
