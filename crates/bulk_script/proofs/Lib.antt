mod LineLaws
mod ReadingLaws
mod TextLaws
