pub mod Answered
pub mod Charges
