pub mod OtherLaws
pub mod Parts
pub mod PlaceLaws
