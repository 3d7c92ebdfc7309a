pub mod Unrolled
pub mod Divided
pub mod Sizes
pub mod Bounds
