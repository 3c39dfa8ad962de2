pub mod BulkLaws
pub mod FeedingLaws
pub mod HeadlineLaws
pub mod OutputLaws
pub mod SendingLaws
pub mod ServeLaws
pub mod WaitingLaws
pub mod WordLaws
