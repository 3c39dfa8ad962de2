pub mod ListLaws
pub mod PatternLaws
