pub mod Settings
pub mod Coverage
pub mod Displacements
pub mod Expressions
pub mod Addresses
pub mod Literals
pub mod Machine
