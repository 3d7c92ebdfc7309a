pub mod Printed
pub mod Session
pub mod Calls
pub mod Inner
