pub mod Classes
pub mod Numbers
pub mod Right
pub mod Values
pub mod Views
