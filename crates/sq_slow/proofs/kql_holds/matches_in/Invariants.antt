use Rattle.std.proofs.Common.{◌≡◌, drop, not}
use Rattle.std.specs.List.{list_any}
use Rattle.sq_model.specs.Lists.{is_empty}
use Rattle.sq_slow.specs.TextValues.{passages_in}
use Rattle.sq_model.specs.Kql.{triples}
use Rattle.sq_slow.proofs.kql_holds.matches_in.Given as goal

abbrev pub invariant-loop-text : goal.invariant-loop-text
invariant-loop-text l =
    list_any (λ passage. not (is_empty (triples passage l.tree))) (passages_in (drop l.text-index l.texts) l.property)
    ≡ list_any (λ passage. not (is_empty (triples passage l.tree))) (passages_in l.texts l.property)
