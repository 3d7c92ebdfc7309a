pub mod Lexed
pub mod Words
pub mod Expressions
pub mod Programs
pub mod Examples
