pub mod Symbols
pub mod Texts
pub mod Remaining
pub mod Order
pub mod Quoting
pub mod Content
