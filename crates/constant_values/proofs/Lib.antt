pub mod Splits
pub mod Lists
pub mod Boundaries
