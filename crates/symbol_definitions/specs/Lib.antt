pub mod Definitions
pub mod Equates
