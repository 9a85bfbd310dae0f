mod DenseLemmas
mod LeastNear
mod LeastUnion
mod PlanLaw
mod WeightsSplit
mod WidthLemmas
