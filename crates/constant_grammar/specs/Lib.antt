pub mod Amounts
pub mod Letters
pub mod Elements
pub mod Nominals
pub mod Constants
pub mod Digits
pub mod Views
