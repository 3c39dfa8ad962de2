pub mod BitLaws
pub mod WorldLaws
pub mod PairLaws
mod MemberLaws
mod AheadLaws
