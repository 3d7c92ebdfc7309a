-- What serves proofs and inner contracts only.
pub mod Chains
pub mod Readers
pub mod Scopes
pub mod Steps
