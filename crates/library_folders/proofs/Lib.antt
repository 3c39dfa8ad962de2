pub mod FolderLaws
pub mod PathLaws
pub mod GroupLaws
