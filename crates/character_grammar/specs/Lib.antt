pub mod TextAnswers
pub mod TextReading
pub mod TextReadings
pub mod TextStanding
pub mod TextViews
pub mod Texts
