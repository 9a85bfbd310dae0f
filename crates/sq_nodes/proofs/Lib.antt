mod NodeLemmas
mod NumberLemmas
mod PartLemmas
mod RowLemmas
mod SpanLemmas
mod StreamLemmas
