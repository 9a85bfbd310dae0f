pub mod Best
pub mod Counted
pub mod Laws
pub mod Paged
pub mod Refined
