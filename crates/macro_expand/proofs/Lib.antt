pub mod TreeLaws
pub mod EffectLaws
pub mod GivenLaws
pub mod PassageLaws
pub mod CallLaws
pub mod EntryLaws
