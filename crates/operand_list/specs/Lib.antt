pub mod Split
pub mod SplitSublist
