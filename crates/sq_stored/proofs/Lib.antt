pub mod TextLemmas
pub mod GrownLemmas
pub mod ItemLemmas
pub mod LawLemmas
pub mod RunLemmas
pub mod RowLemmas
pub mod ReadLemmas
