pub mod Texts
pub mod Images
pub mod Grammar
