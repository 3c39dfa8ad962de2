pub mod ListLaws
pub mod ScanLaws
pub mod GroupLaws
pub mod ConstantLaws
pub mod OperandLaws
pub mod FieldLaws
