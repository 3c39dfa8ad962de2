pub mod Readings
pub mod Called
pub mod Told
