pub mod Pool
pub mod Marks
pub mod Starts
pub mod Entries
pub mod Laws
pub mod Members
