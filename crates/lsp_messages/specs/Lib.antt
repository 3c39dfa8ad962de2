pub mod Codes
pub mod Made
pub mod Messages
pub mod Parameters
pub mod Same
pub mod Shapes
pub mod Tokens
pub mod Written
