pub mod Offsets
pub mod Closing
