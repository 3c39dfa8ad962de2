pub mod TextLaws
pub mod Maps
pub mod Fields
