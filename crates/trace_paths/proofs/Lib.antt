pub mod ListLaws
pub mod TouchedLaws
