pub mod Names
pub mod Uses
pub mod Constants
pub mod Operands
pub mod Statements
pub mod Spans
pub mod Scans
