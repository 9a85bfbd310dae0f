pub mod MapLemmas
pub mod ListsLemmas
