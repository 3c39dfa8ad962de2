pub mod Answers
pub mod Bridge
