pub mod Ways
pub mod Putting
pub mod Ruling
pub mod Behind
