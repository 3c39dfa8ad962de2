pub mod CallLaws
pub mod DoneLaws
