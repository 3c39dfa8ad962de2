pub mod Fronts
pub mod Bad
pub mod Turns
pub mod RegisterLists
pub mod Marks
pub mod Once
pub mod Silence
