pub mod Covers
pub mod Laws
pub mod Least
pub mod Moves
pub mod Rows
pub mod Streams
