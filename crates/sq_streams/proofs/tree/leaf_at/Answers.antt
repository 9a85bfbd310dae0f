use Rattle.std.proofs.Common.{◌≡◌, ◌≢◌, length, map, ap, ◌∙◌, arith}
use Rattle.sq_near.specs.Covers.{merged_spans}
use Rattle.sq_near.specs.Streams.{stream_left}
use Rattle.sq_streams.proofs.StreamLemmas.{post_left}
use Rattle.sq_streams.proofs.TreeSteps.{leaf_made, leaf_missing}
use Rattle.sq_streams.proofs.tree.leaf_at.Goals as goal

pub returns-in_ok-stream-clause-left : goal.returns-in_ok-stream-clause-left
returns-in_ok-stream-clause-left g c =
    let same : length c.args.leaf.now.pattern.texts ≡ c.args.v = omega (arith, c.len.ensures.len, c.if-len-v.true) in
    leaf_made c.args.index.now c.args.look c.args.leaf.now c.args.v (stream_left post_left c.in_ok-stream.stream) same c.in_ok-stream.ensures.left

pub returns-in_ok-nothing-clause-left : goal.returns-in_ok-nothing-clause-left
returns-in_ok-nothing-clause-left g c =
    let other : length c.args.leaf.now.pattern.texts ≢ c.args.v = omega (arith, c.len.ensures.len, c.if-len-v.false) in
    leaf_missing c.args.index.now c.args.look c.args.leaf.now c.args.v (stream_left post_left c.in_ok-nothing.nothing) other
    (c.in_ok-nothing.ensures.left ∙ ap (λ streams. merged_spans (map (stream_left post_left) streams)) c.new.ensures.items)
