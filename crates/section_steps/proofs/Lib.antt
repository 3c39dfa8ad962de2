pub mod Counts
pub mod Homes
pub mod Legibles
