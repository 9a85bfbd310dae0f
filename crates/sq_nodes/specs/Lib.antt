pub mod Leaves
pub mod Scores
