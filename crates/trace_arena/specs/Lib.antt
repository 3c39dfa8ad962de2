pub mod Nodes
pub mod Points
pub mod Whole
pub mod Changes
pub mod Slots
pub mod Waiting
