pub mod Running
pub mod Keeping
pub mod Advancing
