pub mod Opened
pub mod Ways
