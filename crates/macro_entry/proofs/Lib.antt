pub mod SystemLaws
pub mod ShownLaws
