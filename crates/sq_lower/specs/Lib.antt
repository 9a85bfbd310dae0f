pub mod Law
pub mod Lowered
pub mod Runs
