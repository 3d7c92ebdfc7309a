pub mod Bits
pub mod Steps
pub mod Walking
pub mod Checking
pub mod Stretching
pub mod Timing
