-- What serves proofs and inner contracts only.
pub mod Walk
pub mod Stretches
pub mod Timed
pub mod Surveys
