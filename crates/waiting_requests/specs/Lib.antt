pub mod Answers
pub mod Bodies
pub mod Names
pub mod Requests
