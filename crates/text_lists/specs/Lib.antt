pub mod Lists
pub mod Numbers
pub mod Held
pub mod Definitions
pub mod DefinitionPlaces
pub mod HeldDefinitions
