pub mod LineLaws
pub mod WidthLaws
