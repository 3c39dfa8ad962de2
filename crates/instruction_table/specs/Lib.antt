pub mod Formats
pub mod Instructions
pub mod Places
pub mod Operations
pub mod Others
