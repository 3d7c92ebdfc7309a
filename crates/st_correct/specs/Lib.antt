pub mod StructuredText
