pub mod Values
pub mod Globals
pub mod Calls
pub mod Shown
pub mod Variables
pub mod Laws
pub mod Seen
