pub mod Parts
pub mod Ways
pub mod Agreeing
pub mod Listing
pub mod Casing
