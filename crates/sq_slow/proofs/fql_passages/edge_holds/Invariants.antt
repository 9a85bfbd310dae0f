use Rattle.std.proofs.Common.{◌≡◌, drop}
use Rattle.std.specs.List.{list_any, flat_map}
use Rattle.sq_model.specs.Passages.{passages}
use Rattle.sq_model.specs.Looked.{looked}
use Rattle.sq_model.specs.Places.{fits_edge}
use Rattle.sq_slow.proofs.fql_passages.edge_holds.Given as goal

abbrev pub invariant-loop-row : goal.invariant-loop-row
invariant-loop-row l =
    list_any (fits_edge l.pattern l.starts l.ends) (flat_map (passages l.item.values) (drop l.row-index l.row-items))
    ≡ list_any (fits_edge l.pattern l.starts l.ends) (looked l.fn.look l.fn.schema l.item.values)
