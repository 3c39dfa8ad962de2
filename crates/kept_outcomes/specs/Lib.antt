pub mod Pairs
pub mod Traces
pub mod Outcomes
pub mod Codes
pub mod Moments
pub mod Laws
