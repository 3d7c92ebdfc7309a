pub mod Numbers
pub mod Clipped
pub mod ReadBack
pub mod Bits
