pub mod AskingLaws
pub mod ToldLaws
pub mod CalledLaws
