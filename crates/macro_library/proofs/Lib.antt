pub mod MemberLaws
pub mod CopyingLaws
pub mod ExtentLaws
pub mod VariableLaws
pub mod ContentLaws
pub mod SurveyLaws
pub mod TreeLaws
