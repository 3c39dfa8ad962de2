pub use Rattle.call_sites.specs.Values
pub mod Knowledge
pub mod Codes
pub mod Standing
pub mod Changes
pub mod Deeds
pub mod Tellings
pub mod Views
