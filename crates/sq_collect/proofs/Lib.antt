pub mod PutLemmas
pub mod PageLemmas
pub mod PlaceLemmas
pub mod EntryLemmas
pub mod CountLemmas
pub mod RefinerLemmas
pub mod ColumnLemmas
