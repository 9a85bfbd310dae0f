use Rattle.std.proofs.Common.{◌≡◌, ◌+◌, ◌≤◌, ◌++◌, map, drop, sum_by}
use Rattle.std.specs.Prelude.{flat_map}
use Rattle.sq_model.specs.declared.corpus.Corpus.{Corpus}
use Rattle.sq_model.specs.declared.fql.Look.TheVariants.{Searchable}
use Rattle.sq_near.specs.Streams.{stream_left, stream_rest}
use Rattle.sq_postings.specs.Indexed.{spans_of_list}
use Rattle.sq_postings.specs.StandsFor.{StandsFor}
use Rattle.sq_streams.specs.PatternSpans.{lists_of, lists_looked, searched_from, properties_count}
use Rattle.sq_streams.proofs.StreamLemmas.{post_left, post_rest}
use Rattle.sq_streams.proofs.pattern.searchable_leaves.Given as goal

abbrev pub invariant-loop-property : goal.invariant-loop-property
invariant-loop-property g l = record {
  left : map (stream_left post_left) l.leaves.items ++ map spans_of_list (flat_map (lists_of l.index l.token l.prefixed) (searched_from l.property (drop l.property l.index.shapes))) ≡ map spans_of_list (lists_looked l.index Searchable l.token l.prefixed);
  cost : (corpus : Corpus) → StandsFor l.index corpus → l.steps + sum_by (stream_rest post_rest) l.leaves.items + properties_count l.token l.prefixed (searched_from l.property (drop l.property l.index.shapes)) corpus
      ≤ l.fn.steps + properties_count l.token l.prefixed (searched_from 0 l.index.shapes) corpus;
}
