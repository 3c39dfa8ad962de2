pub mod Passages
pub mod Acts
pub mod Items
pub mod Language
pub mod Codes
