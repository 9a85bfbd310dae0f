pub mod Node
pub mod Order
pub mod Tree
pub mod Grammar
pub mod Law
pub mod Sums
pub mod WellFormed
