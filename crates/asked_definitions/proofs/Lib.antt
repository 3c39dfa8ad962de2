pub mod AnswerLaws
pub mod MemberLaws
pub mod WrittenLaws
pub mod DefiningLaws
pub mod KeptLaws
