pub mod Laws
pub mod Numbers
pub mod Spines
pub mod Mirrors
pub mod Copied
pub mod Listed
