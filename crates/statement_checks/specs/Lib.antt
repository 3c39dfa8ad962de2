pub use Rattle.section_layout.specs.Layout
pub use Rattle.section_layout.specs.Views
pub mod Checks
pub mod Places
pub mod Statements
pub mod Programs
