pub mod Entries
pub mod Parts
pub mod Rows
pub mod Spans
