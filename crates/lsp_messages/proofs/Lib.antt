pub mod ListLaws
pub mod MessageLaws
pub mod SameLaws
pub mod TokenLaws
pub mod WrittenLaws
