pub mod KnownLaws
pub mod StandLaws
pub mod FindLaws
