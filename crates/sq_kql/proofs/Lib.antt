pub mod FormedLemmas
pub mod LevelLemmas
pub mod ListLemmas
pub mod OrderLemmas
pub mod ReadLemmas
pub mod TreeLemmas
pub mod UniqueLemmas
mod WellFormedExamples
