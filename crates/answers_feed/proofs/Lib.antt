pub mod ListLaws
pub mod ShelfLaws
pub mod SiteLaws
