pub mod Fronts
pub mod Separators
