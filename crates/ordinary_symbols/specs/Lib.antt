pub mod Known
pub mod Sections
pub mod SingleTerms
pub mod Values
pub mod Table
pub mod Rounds
pub mod Views
pub mod Shown
