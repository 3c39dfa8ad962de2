pub mod Spans
pub mod Views
pub mod Tables
pub mod Shown
