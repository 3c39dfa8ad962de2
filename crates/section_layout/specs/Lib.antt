pub use Rattle.section_steps.specs.Statements
pub use Rattle.section_steps.specs.States
pub use Rattle.section_steps.specs.Places
pub use Rattle.section_steps.specs.Views as SectionStepsViews
pub mod Rows
pub mod Walks
pub mod SectionLists
pub mod Layout
pub mod Views
