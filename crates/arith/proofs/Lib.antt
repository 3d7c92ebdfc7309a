pub mod Basics
pub mod Laws
pub mod Signs
pub mod Flags
