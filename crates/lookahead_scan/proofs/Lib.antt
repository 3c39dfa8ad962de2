pub mod Meeting
pub mod Resuming
pub mod Copies
pub mod Finding
pub mod Telling
pub mod Holding
