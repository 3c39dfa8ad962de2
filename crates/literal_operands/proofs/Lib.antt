pub mod Opens
pub mod LiteralLaws
