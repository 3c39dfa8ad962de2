pub mod TreeLaws
pub mod ListLaws
pub mod KeyLaws
pub mod NumberSteps
