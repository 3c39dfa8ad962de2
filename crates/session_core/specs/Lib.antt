pub use Rattle.program_names.specs.DeclaredSummary
pub use Rattle.program_names.specs.Globals
pub use Rattle.program_names.specs.Figures as ProgramFigures
pub use Rattle.program_names.specs.DeclaredFigures
pub mod Codes
pub mod Debugging
pub mod Diagnostics
pub mod Figures
pub mod SessionView
pub mod Inside
pub mod Laws
pub mod Message
pub mod Names
pub mod Refusals
pub mod Replies
pub mod State
pub mod Step
pub mod Turn
