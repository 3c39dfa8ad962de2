pub mod AnswerLaws
pub mod ExpressionLaws
pub mod SymbolLaws
pub mod TemplateLaws
pub mod BranchLaws
