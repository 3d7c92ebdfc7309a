-- What serves proofs and inner contracts only.
pub mod Ranges
pub mod Tables
pub mod Timers
pub mod Bounds
