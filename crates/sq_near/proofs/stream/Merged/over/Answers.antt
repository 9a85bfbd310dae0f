use Rattle.std.proofs.Common.{◌∙◌, map, arith}
use Rattle.sq_near.specs.Streams.{stream_left, merged_left-parts, merged_rest-parts}
use Rattle.sq_near.specs.Covers.{merged_spans}
use Rattle.sq_near.specs.declared.stream.Stream.TheViews.{roll-Merged}
use Rattle.sq_near.proofs.FindLemmas.{after_none}
use Rattle.sq_near.proofs.stream.Merged.over.Goals as goal

pub returns-clause-left : goal.returns-clause-left
returns-clause-left g c =
    merged_left-parts g.C.SpanCursor.left _ ∙ c.merge-found.ensures.left ∙ after_none (merged_spans (map (stream_left g.C.SpanCursor.left) c.args.parts.items))

pub returns-clause-cost : goal.returns-clause-cost
returns-clause-cost g c =
    let after = merged_rest-parts g.C.SpanCursor.rest (roll-Merged g.row.C.Denot (record { parts = c.merge-found.new.parts; found = c.merge-found.result })) in
    omega (arith, c.merge-found.ensures.cost, after)
