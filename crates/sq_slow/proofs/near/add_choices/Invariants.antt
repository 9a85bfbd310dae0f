use Rattle.std.proofs.Common.{◌≡◌, ◌∷◌, ◌++◌, map, drop}
use Rattle.sq_slow.proofs.near.add_choices.Given as goal

abbrev pub invariant-loop-rest : goal.invariant-loop-rest
invariant-loop-rest l = l.all ++ map (λ chosen. l.first ∷ chosen) (drop l.rest-index l.rests) ≡ l.initial.all ++ map (λ chosen. l.first ∷ chosen) l.rests
