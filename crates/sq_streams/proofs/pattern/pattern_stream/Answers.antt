use Rattle.std.proofs.Common.{◌+◌, ◌<◌, length, arith}
use Rattle.std.proofs.lemmas.Result.{IfOk-weaker, MatchResult-weaker}
use Rattle.sq_near.specs.Streams.{stream_left, stream_rest}
use Rattle.sq_streams.proofs.StreamLemmas.{post_left, post_rest}
use Rattle.sq_streams.proofs.PatternLemmas.{are_places, within_count}
use Rattle.sq_streams.proofs.pattern.pattern_stream.Goals as goal

pub returns-clause-left : goal.returns-clause-left
returns-clause-left g c =
    let some : 0 < length c.args.pattern.now.texts = omega (arith, c.len.ensures.some, c.len.ensures.len) in
    IfOk-weaker c.phrase_stream.result _ _
    (λ stream e. are_places c.args.index.now c.tells.ensures.places c.joined_are_least.ensures c.args.look c.args.pattern.now some (stream_left post_left stream) e) c.phrase_stream.ensures.left

pub returns-clause-cost : goal.returns-clause-cost
returns-clause-cost g c =
    MatchResult-weaker c.phrase_stream.result c.phrase_stream.ensures.cost
    (λ stream h. within_count c.args.index.now c.args.look c.args.pattern.now c.args.steps.now (c.phrase_stream.new.steps + stream_rest post_rest stream) h)
    (λ e h. within_count c.args.index.now c.args.look c.args.pattern.now c.args.steps.now c.phrase_stream.new.steps h)
