pub mod SymbolLaws
pub mod LineLaws
pub mod UnitLaws
pub mod OrderLaws
pub mod QuotingLaws
pub mod TextLaws
pub mod FirstBytes
