pub mod MemberLemmas
pub mod SortedLemmas
pub mod OrderLemmas
pub mod PageLemmas
pub mod ValuesLemmas
pub mod CountLemmas
pub mod Examples
