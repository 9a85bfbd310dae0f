use Rattle.std.proofs.Common.{◌≡◌, ◌++◌, map, drop}
use Rattle.sq_streams.proofs.tree.once_for_each.Given as goal

abbrev pub invariant-loop-part : goal.invariant-loop-part
invariant-loop-part l = l.weights.items ++ map (λ _. l.v) (drop l._part-index l.parts) ≡ map (λ _. l.v) l.parts
