use Rattle.std.proofs.Common.{◌≡◌, ◌∷◌, ◌++◌, map, drop, length}
use Rattle.std.specs.List.{flat_map}
use Rattle.sq_model.specs.Triples.{choices}
use Rattle.sq_slow.proofs.near.+choices.Given as goal

abbrev pub decreases-choices : goal.decreases-choices
decreases-choices l = length l.lists.now

abbrev pub invariant-loop-first : goal.invariant-loop-first
invariant-loop-first l = l.all ++ flat_map (λ x. map (λ chosen. x ∷ chosen) l.rests) (drop l.first-index l.first-items) ≡ choices l.lists
