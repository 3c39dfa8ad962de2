pub mod SearchLemmas
pub mod LeastLemmas
pub mod BreakLemmas
pub mod FrameLemmas
