pub mod World
pub mod Puts
pub mod Sourced
pub mod Found
pub mod States
