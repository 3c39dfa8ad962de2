pub use Rattle.program_launch.specs.Traces
pub use Rattle.program_assembly.specs.Assembly
pub use Rattle.program_assembly.specs.Figures
pub use Rattle.program_assembly.specs.Globals
pub use Rattle.program_assembly.specs.declared.figures.Figures as DeclaredFigures
pub use Rattle.program_assembly.specs.declared.figures.Summary as DeclaredSummary
pub mod Names
pub mod Paths
pub mod Prototypes
pub mod Symbols
pub mod Texts
