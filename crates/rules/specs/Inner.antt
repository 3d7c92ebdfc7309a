-- What serves proofs and inner contracts only.
pub mod Spans
pub mod Behind
pub mod Timers
