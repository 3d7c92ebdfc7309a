pub mod Stores
pub mod Ways
pub mod Ending
pub mod Descent
pub mod Service
pub mod Kept
