pub mod Dense
pub mod Laws
pub mod Plan
