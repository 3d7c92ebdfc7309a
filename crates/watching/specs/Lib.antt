pub mod Watching
pub mod Failing
