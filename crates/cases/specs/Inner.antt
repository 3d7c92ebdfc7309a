-- What serves proofs and inner contracts only.
pub mod Kept
pub mod Places
