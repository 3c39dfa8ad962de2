pub mod Pools
pub mod Views
pub mod Shown
