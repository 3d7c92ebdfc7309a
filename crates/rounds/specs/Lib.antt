pub mod Visits
pub mod Together
