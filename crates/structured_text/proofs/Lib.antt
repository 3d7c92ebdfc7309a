pub mod Ways
pub mod Table
pub mod Growth
pub mod Bound
pub mod SolePlace
pub mod FirstReserved
pub mod Walk
pub mod Service
