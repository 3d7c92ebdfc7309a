-- What serves proofs and inner contracts only.
pub mod Passes
pub mod Leaps
pub mod Acts
