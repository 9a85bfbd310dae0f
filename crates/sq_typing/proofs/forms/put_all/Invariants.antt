use Rattle.std.proofs.Common.{◌≡◌, drop}
use Rattle.sq_typing.specs.Forms.{with_all}
use Rattle.sq_typing.proofs.forms.put_all.Given as goal

abbrev pub invariant-loop-weight : goal.invariant-loop-weight
invariant-loop-weight l = with_all l.weights.items (drop l.weight-index l.more) ≡ with_all l.fn.weights.items l.more
