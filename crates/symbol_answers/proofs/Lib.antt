pub mod ListLaws
pub mod OrderLaws
pub mod PresentLaws
pub mod ReferenceLaws
