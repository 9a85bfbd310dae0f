mod CompleteLemmas
mod CountLemmas
mod Examples
mod KnownLemmas
mod LeakLemmas
mod ServeLemmas
