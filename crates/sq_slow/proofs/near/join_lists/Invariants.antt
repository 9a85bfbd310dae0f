use Rattle.std.proofs.Common.{◌≡◌, ◌++◌, drop}
use Rattle.sq_model.specs.Lists.{joined}
use Rattle.sq_slow.proofs.near.join_lists.Given as goal

abbrev pub invariant-loop-list : goal.invariant-loop-list
invariant-loop-list l = l.all ++ joined (drop l.list-index l.lists) ≡ joined l.lists
