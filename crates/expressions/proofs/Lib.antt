pub mod Steps
pub mod Chain
pub mod Scopes
pub mod Ways
pub mod Cycle
