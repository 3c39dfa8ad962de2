pub mod ItemLaws
pub mod ReadingLaws
