pub mod ListLemmas
pub mod PathLemmas
pub mod SoundLemmas
pub mod IndexLemmas
pub mod ClearLemmas
pub mod ChainLemmas
