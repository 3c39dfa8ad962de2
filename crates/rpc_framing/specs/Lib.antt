pub mod Faults
pub mod Frames
pub mod Places
pub mod Reading
pub mod Stages
pub mod Steps
