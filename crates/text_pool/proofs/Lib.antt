pub mod PoolLemmas
pub mod StartLemmas
pub mod IndexLemmas
pub mod InternLemmas
pub mod CallerLemmas
