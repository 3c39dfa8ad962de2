pub mod IdLaws
pub mod WaitLaws
