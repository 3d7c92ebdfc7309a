pub mod Input
pub mod Row
pub mod Output
pub mod Inner
