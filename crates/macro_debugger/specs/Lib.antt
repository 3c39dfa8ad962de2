pub mod Stops
pub mod Walks
pub mod Seen
pub mod Laws
