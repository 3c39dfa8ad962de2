pub mod PathLaws
pub mod PrototypeLaws
pub mod SymbolLaws
mod NameLaws
