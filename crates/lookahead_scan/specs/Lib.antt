pub mod Sights
pub mod Statements
pub mod Looks
pub mod Copying
pub mod Places
pub mod Held
pub mod Index
