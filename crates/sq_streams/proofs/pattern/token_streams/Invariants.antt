use Rattle.std.proofs.Common.{◌≡◌, ◌+◌, ◌≤◌, ◌++◌, map, drop, sum_by}
use Rattle.sq_model.specs.declared.corpus.Corpus.{Corpus}
use Rattle.sq_near.specs.Streams.{stream_left, stream_rest}
use Rattle.sq_postings.specs.StandsFor.{StandsFor}
use Rattle.sq_streams.specs.PatternSpans.{texts_spans, texts_count}
use Rattle.sq_streams.proofs.StreamLemmas.{post_left, post_rest}
use Rattle.sq_streams.proofs.pattern.token_streams.Given as goal

abbrev pub invariant-loop-i : goal.invariant-loop-i
invariant-loop-i g l = record {
  left : map (stream_left post_left) l.streams.items ++ texts_spans l.index l.look l.pattern.prefixed (drop l.i l.pattern.texts) ≡ texts_spans l.index l.look l.pattern.prefixed l.pattern.texts;
  cost : (corpus : Corpus) → StandsFor l.index corpus → l.steps + sum_by (stream_rest post_rest) l.streams.items + texts_count l.look l.pattern.prefixed (drop l.i l.pattern.texts) corpus
      ≤ l.fn.steps + texts_count l.look l.pattern.prefixed l.pattern.texts corpus;
}
