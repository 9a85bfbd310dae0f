pub mod Gathered
pub mod Keys
pub mod Laws
pub mod Ranking
