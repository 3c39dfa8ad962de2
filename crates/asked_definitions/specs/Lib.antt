pub mod Asked
pub mod Led
