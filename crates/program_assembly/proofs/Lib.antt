pub mod LineLaws
pub mod StackLaws
pub mod ListLaws
pub mod PointLaws
pub mod StatementLaws
pub mod PlainRuns
pub mod OpenCode
mod FigureLaws
mod KeptRootLaws
