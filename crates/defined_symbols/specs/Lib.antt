pub mod Symbols
pub mod Held
