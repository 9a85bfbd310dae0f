use Rattle.std.proofs.Common.{◌≡◌, ◌++◌, map, drop}
use Rattle.sq_lower.specs.Lowered.{literal}
use Rattle.sq_lower.proofs.build.literals.Given as goal

abbrev pub invariant-loop-leaf : goal.invariant-loop-leaf
invariant-loop-leaf l = l.forms ++ map (λ leaf. literal leaf.text) (drop l.leaf-index l.leaves) ≡ map (λ leaf. literal leaf.text) l.leaves
