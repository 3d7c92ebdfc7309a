pub mod Ways
pub mod Sizes
pub mod Reading
pub mod Behind
