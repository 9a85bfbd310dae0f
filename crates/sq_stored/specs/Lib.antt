pub mod Kept
pub mod Laws
pub mod Runs
pub mod Shown
pub mod Stored
pub mod Texts
