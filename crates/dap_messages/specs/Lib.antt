pub mod Arguments
pub mod Made
pub mod Requests
pub mod Written
