mod CopiesExamples
pub mod CopiesLemmas
mod CountLemmas
pub mod DistinctLemmas
pub mod FormedLemmas
pub mod KqlEquations
mod KqlTypingExamples
pub mod LeafLemmas
pub mod NodeLemmas
pub mod ProximateLemmas
mod SizeLemmas
mod FqlAmounts
pub mod FqlEquations
pub mod FqlFilled
pub mod FqlLemmas
pub mod FqlSound
mod FqlTokens
mod FqlTypedExamples
pub mod FqlWhole
pub mod FqlXranks
pub mod SoundLemmas
pub mod SpanLemmas
mod SumLemmas
mod SummedLemmas
pub mod TogetherLemmas
mod TokenCount
pub mod TypedLemmas
mod ValueLemmas
