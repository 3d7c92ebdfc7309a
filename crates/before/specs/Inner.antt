-- What serves proofs and inner contracts only.
pub mod Memory
pub mod Known
