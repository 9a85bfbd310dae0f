use Rattle.std.proofs.Common.{◌≡◌, drop, not}
use Rattle.std.specs.List.{list_any, flat_map}
use Rattle.sq_model.specs.Lists.{is_empty}
use Rattle.sq_model.specs.Passages.{passages}
use Rattle.sq_model.specs.Looked.{looked}
use Rattle.sq_model.specs.Spans.{triples}
use Rattle.sq_slow.proofs.fql_passages.spans_hold.Given as goal

abbrev pub invariant-loop-row : goal.invariant-loop-row
invariant-loop-row l =
    list_any (λ passage. not (is_empty (triples passage l.tree))) (flat_map (passages l.item.values) (drop l.row-index l.row-items))
    ≡ list_any (λ passage. not (is_empty (triples passage l.tree))) (looked l.fn.look l.fn.schema l.item.values)
