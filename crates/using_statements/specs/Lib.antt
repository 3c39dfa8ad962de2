pub mod Held
pub mod Wholes
pub mod Written
pub mod Values
pub mod Said
pub mod Behind
pub mod Faults
pub mod Views
