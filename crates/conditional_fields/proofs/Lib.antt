pub use Rattle.operand_grammar.proofs.LogicFinds
pub mod FrontLaws
pub mod TemplateLaws
pub mod AnswerLaws
pub mod DeclarationLaws
pub mod BranchLaws
pub mod EndingLaws
