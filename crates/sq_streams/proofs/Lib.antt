mod DenseSpans
mod PatternLemmas
mod PatternLists
mod PatternPlaces
mod PatternPostings
mod PatternRows
mod PatternRuns
mod PatternTokens
mod PriceLemmas
mod SpanLemmas
mod StreamLemmas
mod SumLemmas
mod TreeLemmas
mod TreeLoops
mod TreePriceLemmas
mod TreeRows
mod TreeSteps
pub mod WeightLemmas
