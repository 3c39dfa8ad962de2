pub mod ParameterLaws
pub mod PrototypeLaws
pub mod SortingLaws
pub mod BindingLaws
pub mod ValueLaws
