use Rattle.std.proofs.Common.{◌≡◌, drop, map, length}
use Rattle.sq_model.specs.Copies.{distinct}
use Rattle.sq_typing.specs.Forms.{with_all}
use Rattle.sq_typing.proofs.forms.weights_of.Given as goal

abbrev pub invariant-loop-leaf : goal.invariant-loop-leaf
invariant-loop-leaf l = with_all l.weights.items (map (λ leaf. length leaf.pattern.texts) (drop l.leaf-index l.leaves)) ≡ distinct (map (λ leaf. length leaf.pattern.texts) l.leaves)
