-- What serves proofs and inner contracts only.
pub mod Dispatch
pub mod Groups
pub mod Memory
pub mod Passing
pub mod Sides
