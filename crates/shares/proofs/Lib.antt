pub mod Given
pub mod Exact
pub mod Isolated
pub mod IsolatedExact
pub mod Lengths
pub mod Joined
