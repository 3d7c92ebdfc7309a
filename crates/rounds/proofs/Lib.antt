pub mod Visiting
pub mod Limits
pub mod Turning
