use Rattle.std.proofs.Common.{◌≡◌, ◌++◌, map, drop}
use Rattle.sq_model.specs.Spans.{triples}
use Rattle.sq_slow.proofs.fql_spans.+spans.Given as goal

abbrev pub invariant-triples_each-loop-part : goal.invariant-triples_each-loop-part
invariant-triples_each-loop-part l = l.lists ++ map (triples l.passage) (drop l.part-index l.parts) ≡ map (triples l.passage) l.parts
