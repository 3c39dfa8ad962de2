pub mod Touched
pub mod Touching
