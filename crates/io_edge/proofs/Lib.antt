pub mod ToldLaws
pub mod Rings
pub mod PieceLemmas
pub mod MemorySourceLemmas
pub mod MemoryLibraryLemmas
