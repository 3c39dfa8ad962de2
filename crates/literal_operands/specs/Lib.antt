pub mod Pairs
pub mod Literals
pub mod Views
