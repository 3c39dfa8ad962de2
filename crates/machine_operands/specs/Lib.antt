pub mod Forms
pub mod Parts
pub mod Operands
pub mod Views
