pub mod Meanings
pub mod Equates
pub mod Constants
pub mod Attributes
