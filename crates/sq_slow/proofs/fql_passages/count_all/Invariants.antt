use Rattle.std.proofs.Common.{◌≡◌, ◌+◌, drop, length}
use Rattle.std.specs.List.{sum_by, flat_map}
use Rattle.sq_model.specs.Passages.{passages}
use Rattle.sq_model.specs.Looked.{looked}
use Rattle.sq_model.specs.Places.{places}
use Rattle.sq_slow.proofs.fql_passages.count_all.Given as goal

abbrev pub invariant-loop-row : goal.invariant-loop-row
invariant-loop-row l =
    l.count + sum_by (λ passage. length (places l.pattern passage)) (flat_map (passages l.item.values) (drop l.row-index l.row-items))
    ≡ sum_by (λ passage. length (places l.pattern passage)) (looked l.fn.look l.fn.schema l.item.values)
