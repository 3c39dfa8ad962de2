pub mod Lengths
pub mod Types
