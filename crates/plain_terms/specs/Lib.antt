pub mod Glances
pub mod Terms
pub mod Quoted
pub mod Sums
