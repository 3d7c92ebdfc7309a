pub mod Sameness
pub mod Finishes
pub mod Posts
pub mod Begins
pub mod Rows
