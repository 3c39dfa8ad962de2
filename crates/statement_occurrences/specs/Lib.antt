pub mod Named
pub mod Views
