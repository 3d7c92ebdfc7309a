pub mod Counting
pub mod Coding
pub mod Placing
pub mod Walks
pub mod Reporting
pub mod Service
pub mod Traces
pub mod Examples
