pub mod Before
pub mod Inner
