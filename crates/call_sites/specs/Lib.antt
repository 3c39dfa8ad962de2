pub mod Owned
pub mod Values
pub mod Calls
pub mod Rules
