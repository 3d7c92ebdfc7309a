-- What serves proofs and inner contracts only.
pub mod Descent
