use Rattle.std.proofs.Common.{◌≡◌, drop, not}
use Rattle.std.specs.List.{list_any, flat_map}
use Rattle.sq_model.specs.Lists.{is_empty}
use Rattle.sq_model.specs.Passages.{passages}
use Rattle.sq_model.specs.Kql.{triples, somewhere}
use Rattle.sq_slow.proofs.kql_holds.somewhere.Given as goal

abbrev pub invariant-loop-row : goal.invariant-loop-row
invariant-loop-row l =
    list_any (λ passage. not (is_empty (triples passage l.tree))) (flat_map (passages l.item.values) (drop l.row-index l.row-items)) ≡ somewhere l.fn.schema l.item.values (λ passage. triples passage l.tree)
