-- What serves proofs and inner contracts only.
pub mod Names
pub mod Bytes
