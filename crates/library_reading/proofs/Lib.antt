pub mod AskedLaws
pub mod ConfigurationLaws
pub mod DocumentLaws
mod FileLaws
pub mod FolderLaws
pub mod LeavingLaws
pub mod MemberLaws
mod OrderLaws
pub mod RowLaws
mod TextLaws
