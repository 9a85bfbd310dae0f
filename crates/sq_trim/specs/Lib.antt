pub mod Flags
pub mod Trimmed
