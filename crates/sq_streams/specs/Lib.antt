pub mod Looked
pub mod Pattern
pub mod PatternSpans
pub mod Tree
pub mod TreeLaws
pub mod TreePrices
pub mod TreeStreams
pub mod TreeWeights
