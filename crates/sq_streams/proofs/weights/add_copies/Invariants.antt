use Rattle.std.proofs.Common.{◌≡◌, ◌∷◌, [], ◌++◌, map, drop}
use Rattle.sq_streams.proofs.weights.add_copies.Given as goal

abbrev pub invariant-loop-weight : goal.invariant-loop-weight
invariant-loop-weight l =
    l.all ++ map (λ weight. l.chosen ++ weight ∷ []) (drop l.weight-index l.weights) ≡ l.fn.all ++ map (λ weight. l.chosen ++ weight ∷ []) l.weights
