pub mod TableLemmas
pub mod CallerLemmas
