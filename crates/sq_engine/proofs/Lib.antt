mod AlikeLemmas
mod AlikePrice
mod AlikeVerdict
mod Examples
mod LeakLemmas
mod QueryLemmas
mod TwinLemmas
mod VerdictLemmas
