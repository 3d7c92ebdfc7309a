pub mod Syntax
pub mod Reading
pub mod Meaning
pub mod Printed
pub mod Examples
