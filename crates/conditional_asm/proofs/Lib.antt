pub mod SubstitutionLaws
pub mod BranchingLaws
pub mod RepeatingLaws
pub mod EffectLaws
pub mod AskingActs
pub mod ActLaws
