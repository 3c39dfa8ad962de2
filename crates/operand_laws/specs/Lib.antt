pub mod Right
pub mod Fields
