pub mod PlaceLaws
pub mod CallLaws
pub mod WalkLaws
pub mod PushLaws
