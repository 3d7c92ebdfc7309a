pub mod Replay
pub mod Results
pub mod Inner
