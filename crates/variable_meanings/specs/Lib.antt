pub mod Meanings
pub mod Entries
pub mod Laws
