pub mod ListLaws
pub mod DeedLaws
pub mod MeaningLaws
pub mod TellingLaws
