pub mod Answers
pub mod Entities
pub mod Hover
pub mod Kept
pub mod Order
pub mod Questions
pub mod Seen
