-- What serves proofs and inner contracts only.
pub mod Fronts
pub mod Mirrored
pub mod Operands
pub mod Statements
