pub mod ExpressionLaws
pub mod Fronts
pub mod QuotedLaws
pub mod SumLaws
pub mod Glances
