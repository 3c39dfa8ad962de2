pub use Rattle.statement_reading.specs.Readings
pub use Rattle.statement_reading.specs.Views as StatementReadingViews
pub mod Listings
pub mod Sources
pub mod Views
