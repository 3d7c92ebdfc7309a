pub mod Cells
pub mod Stored
pub mod Tests
pub mod Begins
