pub mod LiteralLaws
pub mod Alone
