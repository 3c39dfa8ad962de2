pub mod KnownLaws
pub mod ListedLaws
pub mod QuietLaws
pub mod ScheduleLaws
