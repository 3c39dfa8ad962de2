pub mod Kinds
pub mod Expressions
pub mod Symbols
pub mod Lists
pub mod Equates
pub mod Bases
pub mod Statements
pub mod Views
