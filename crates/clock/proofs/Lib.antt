pub mod Days
pub mod Entries
pub mod Repeated
pub mod Held
pub mod Service
pub mod Examples
pub mod Fillings
