pub mod Repeating
pub mod Expressions
