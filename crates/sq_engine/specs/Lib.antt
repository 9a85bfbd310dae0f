pub mod AlikeLaws
pub mod Answer
pub mod Answers
pub mod Leak
pub mod Loading
pub mod Price
pub mod Query
pub mod Verdict
