pub mod DigitsLemmas
pub mod ListLemmas
pub mod LoopLemmas
pub mod OutcomeLemmas
pub mod ItemLemmas
pub mod PieceLemmas
pub mod WholeLemmas
pub mod SoundLemmas
pub mod PlaceLemmas
pub mod FqlLoopLemmas
pub mod FqlWholeLemmas
pub mod FqlSoundLemmas
mod FqlExamples
