pub mod LogicAnswers
pub mod LogicReading
pub mod LogicReadings
pub mod LogicStanding
pub mod LogicViews
pub mod Logics
