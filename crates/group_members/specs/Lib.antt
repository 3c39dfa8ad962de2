pub mod Index
pub mod Members
pub mod Gathering
pub mod Agreement
