pub mod Choice
pub mod Files
pub mod Members
pub mod Patterns
