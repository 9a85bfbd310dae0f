use Rattle.std.proofs.Common.{◌∙◌, map, arith}
use Rattle.sq_near.specs.Streams.{stream_left, joined_left-parts, joined_rest-parts}
use Rattle.sq_near.specs.Covers.{joined_spans}
use Rattle.sq_near.specs.declared.stream.Stream.TheViews.{roll-Joined}
use Rattle.sq_near.proofs.FindLemmas.{after_none}
use Rattle.sq_near.proofs.stream.Joined.new.Goals as goal

pub returns-clause-left : goal.returns-clause-left
returns-clause-left g c =
    joined_left-parts g.C.SpanCursor.left _ ∙ c.find-found.ensures.left
    ∙ after_none (joined_spans c.args.width c.args.ordered (map (stream_left g.C.SpanCursor.left) c.args.parts.items))

pub returns-clause-cost : goal.returns-clause-cost
returns-clause-cost g c =
    let after = joined_rest-parts g.C.SpanCursor.rest (roll-Joined g.row.C.Denot (record { parts = c.find-found.new.parts; width = c.args.width; ordered = c.args.ordered; found = c.find-found.result })) in
    omega (arith, c.find-found.ensures.cost, after)
