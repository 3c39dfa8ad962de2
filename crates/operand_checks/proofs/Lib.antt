pub mod Rows
pub mod Judged
pub mod Turns
pub mod Covers
pub mod Alone
