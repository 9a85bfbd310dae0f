use Rattle.std.proofs.Common.{arith}
use Rattle.std.proofs.lemmas.Result.{err_from_is_err_and}
use Rattle.sq_near.specs.Streams.{stream_left, stream_rest}
use Rattle.sq_streams.specs.PatternSpans.{texts_spans}
use Rattle.sq_streams.proofs.StreamLemmas.{post_left, post_rest, more_rest, texts_turn, texts_count_next}
use Rattle.sq_streams.proofs.pattern.token_streams.Goals as goal

pub loop-i-preserved : goal.loop-i-preserved
loop-i-preserved g c =
    let phrase = c.args.pattern.now in
    record {
      left = texts_turn (stream_left post_left) c.args.index.now c.args.look phrase.prefixed phrase.texts c.loop-i.i c.token.result.now c.is_prefixed_at-prefixed.result c.loop-i.streams.items c.push.new.self.items c.in_ok-stream.stream
          (texts_spans c.args.index.now c.args.look phrase.prefixed phrase.texts) c.token.ensures c.is_prefixed_at-prefixed.ensures c.in_ok-push.ensures.items c.in_ok-stream.ensures.left c.loop-i.invariant.left;
      cost = λ corpus stands.
          omega (
            arith,
            c.in_ok-stream.ensures.cost corpus stands,
            c.loop-i.invariant.cost corpus stands,
            texts_count_next c.args.look phrase.prefixed phrase.texts c.loop-i.i c.token.result.now c.is_prefixed_at-prefixed.result corpus c.token.ensures c.is_prefixed_at-prefixed.ensures,
            more_rest (stream_rest post_rest) c.loop-i.streams.items c.push.new.self.items c.in_ok-stream.stream c.in_ok-push.ensures.items,
          );
    }

pub returns-in_err-stream-clause-cost : goal.returns-in_err-stream-clause-cost
returns-in_err-stream-clause-cost g c =
    let phrase = c.args.pattern.now in
    let refused = err_from_is_err_and c.from_residual.result c.from_residual.ensures.1 in
    rw refused.1 (λ corpus stands.
    omega (
      arith,
      c.in_err-stream.ensures.cost corpus stands,
      c.loop-i.invariant.cost corpus stands,
      texts_count_next c.args.look phrase.prefixed phrase.texts c.loop-i.i c.token.result.now c.is_prefixed_at-prefixed.result corpus c.token.ensures c.is_prefixed_at-prefixed.ensures,
    ))

pub returns-in_err-push-clause-cost : goal.returns-in_err-push-clause-cost
returns-in_err-push-clause-cost g c =
    let phrase = c.args.pattern.now in
    let refused = err_from_is_err_and c.from_residual-in_err-push.result c.from_residual-in_err-push.ensures.1 in
    rw refused.1 (λ corpus stands.
    omega (
      arith,
      c.in_ok-stream.ensures.cost corpus stands,
      c.loop-i.invariant.cost corpus stands,
      texts_count_next c.args.look phrase.prefixed phrase.texts c.loop-i.i c.token.result.now c.is_prefixed_at-prefixed.result corpus c.token.ensures c.is_prefixed_at-prefixed.ensures,
    ))
