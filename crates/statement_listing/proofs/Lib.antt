pub mod ListingLaws
pub mod NumberingLaws
pub mod IndexLaws
