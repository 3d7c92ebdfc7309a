-- What serves proofs and inner contracts only.
pub mod Comparison
pub mod Spans
