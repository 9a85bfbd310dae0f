use Rattle.std.proofs.Common.{◌≡◌, length, arith}
use Rattle.std.proofs.lemmas.Bool.Decides.{nat_tests}
use Rattle.sq_near.specs.Streams.{stream_left, stream_ordered}
use Rattle.sq_streams.proofs.StreamLemmas.{one_merged}
use Rattle.sq_streams.proofs.merge.merge_of.Goals as goal

pub returns-in-Some-clause-left : goal.returns-in-Some-clause-left
returns-in-Some-clause-left g c =
    let one : length c.args.parts.items ≡ 1 = first_of (omega (arith, c.if-len-ne1.false, c.len.ensures), grind (arith, nat_tests, c.if-len-ne1.false, c.len.ensures)) in
    one_merged (stream_left g.C.SpanCursor.left) c.args.parts.items c.pop.new.self.items c.in-Some.part c.in-Some.ensures.items one (stream_ordered g.C.SpanCursor.left g.met.C.SpanCursor.ordered c.in-Some.part)
