pub mod Joining
pub mod Passing
pub mod Skipping
pub mod Fusing
pub mod Leaping
pub mod Acting
