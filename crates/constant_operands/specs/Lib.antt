pub mod Operands
pub mod Numbers
pub mod Room
pub mod Labels
pub mod Said
pub mod Measures
pub mod Views
