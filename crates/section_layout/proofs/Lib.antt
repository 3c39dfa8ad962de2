pub mod Turns
pub mod Lasts
pub mod Ranges
pub mod Maps
pub mod Judgments
pub mod Counts
