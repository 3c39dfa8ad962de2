pub mod ReadBack
pub mod Following
