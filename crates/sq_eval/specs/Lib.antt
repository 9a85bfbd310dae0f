pub mod Laws
pub mod Meaning
pub mod Nodes
pub mod Plans
pub mod Scored
