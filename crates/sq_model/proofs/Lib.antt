pub mod Choices
pub mod FqlEquations
mod FqlExamples
pub mod KqlEquations
pub mod Members
mod ValidLemmas
mod WorkedExamples
