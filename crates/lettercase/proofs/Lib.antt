pub mod RecasedNames
pub mod Recased
