pub mod MergedLists
pub mod Bounds
pub mod Ways
pub mod Steps
pub mod Nested
pub mod Stands
pub mod PutLists
