pub mod Places
pub mod Stacks
pub mod Pasts
pub mod Laws
