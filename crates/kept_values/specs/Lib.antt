pub mod Trees
pub mod Lists
pub mod Keys
pub mod Answers
pub mod Laws
