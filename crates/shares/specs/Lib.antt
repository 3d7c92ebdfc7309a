pub mod Farm
pub mod Joined
