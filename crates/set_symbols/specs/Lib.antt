pub mod Kinds
pub mod Table
pub mod Codes
pub mod Entries
pub mod Laws
