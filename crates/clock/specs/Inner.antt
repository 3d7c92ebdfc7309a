-- What serves proofs and inner contracts only.
pub mod Numbers
pub mod Rows
