pub mod Questions
pub mod Rehearsal
