pub mod AreParts
pub mod Claims
pub mod Dictionary
pub mod Gathered
pub mod Lengths
pub mod Numbers
pub mod Terms
pub mod Words
