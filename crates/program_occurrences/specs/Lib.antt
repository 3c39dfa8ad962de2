pub mod Known
pub mod Operations
pub mod Labels
pub mod Prototypes
pub mod Occurrences
pub mod Programs
pub mod Views
pub mod Met
