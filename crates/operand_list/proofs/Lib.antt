pub mod SplitLaws
pub mod SplitSublistLaws
