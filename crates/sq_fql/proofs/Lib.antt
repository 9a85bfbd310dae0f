pub mod CanonEquations
mod CanonExamples
mod CanonLawLemmas
mod CanonLexLemmas
mod CanonNumberLemmas
mod CanonParameterLemmas
mod CanonReadLemmas
mod CanonStringLemmas
mod CanonTreeLemmas
pub mod EscapeLemmas
pub mod ListLemmas
mod ReadExamples
pub mod FormLemmas
pub mod LimitLemmas
pub mod LiteralLemmas
pub mod ReadFormLemmas
mod WellFormedExamples
