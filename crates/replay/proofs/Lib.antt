pub mod Starts
pub mod Scans
pub mod Recorded
pub mod Showing
pub mod Texts
