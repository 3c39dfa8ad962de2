pub mod Meaning
pub mod Places
pub mod Takes
pub mod Watch
