pub mod NumberLaws
pub mod ShapeLaws
pub mod WordLaws
