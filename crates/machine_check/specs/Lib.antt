pub mod Bounds
pub mod Values
pub mod Targets
pub mod Counts
