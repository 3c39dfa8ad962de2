pub mod IndexLaws
pub mod GatheringLaws
pub mod MemberLaws
pub mod AgreementLaws
pub mod ChangeLaws
