pub mod Placing
pub mod Measuring
