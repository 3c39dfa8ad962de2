pub mod NumberLaws
pub mod TextLaws
pub mod WholeLaws
pub mod DefinitionLaws
pub mod PathLaws
