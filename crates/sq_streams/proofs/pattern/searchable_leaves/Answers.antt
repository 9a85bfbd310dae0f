use Rattle.std.proofs.Common.{◌<◌, length, map, arith}
use Rattle.std.proofs.lemmas.Result.{err_from_is_err_and}
use Rattle.sq_near.specs.Streams.{stream_left}
use Rattle.sq_model.specs.declared.fql.Look.TheVariants.{Searchable}
use Rattle.sq_postings.specs.Indexed.{spans_of_list}
use Rattle.sq_streams.specs.PatternSpans.{lists_looked}
use Rattle.sq_streams.proofs.StreamLemmas.{post_left, searched_turn, searched_count, searched_total}
use Rattle.sq_streams.proofs.pattern.searchable_leaves.Goals as goal

pub loop-property-preserved : goal.loop-property-preserved
loop-property-preserved g c =
    let below : c.loop-property.property < length c.args.index.now.shapes = omega (arith, c.loop-property-test.true, c.properties-property-end.ensures) in
    record {
      left = searched_turn (stream_left post_left) c.args.index.now c.args.token.now c.args.prefixed c.loop-property.property c.loop-property.leaves.items c.add_searchable.new.leaves.items
          (map spans_of_list (lists_looked c.args.index.now Searchable c.args.token.now c.args.prefixed)) below c.in_ok-add_searchable.ensures.left c.loop-property.invariant.left;
      cost = λ corpus stands.
          omega (
            arith,
            c.in_ok-add_searchable.ensures.cost corpus stands,
            c.loop-property.invariant.cost corpus stands,
            searched_count c.args.index.now c.args.token.now c.args.prefixed c.loop-property.property corpus below,
          );
    }

pub returns-in_err-add_searchable-clause-cost : goal.returns-in_err-add_searchable-clause-cost
returns-in_err-add_searchable-clause-cost g c =
    let below : c.loop-property.property < length c.args.index.now.shapes = omega (arith, c.loop-property-test.true, c.properties-property-end.ensures) in
    let refused = err_from_is_err_and c.from_residual.result c.from_residual.ensures.1 in
    rw refused.1 (λ corpus stands.
    omega (
      arith,
      c.in_err-add_searchable.ensures.cost corpus stands,
      c.loop-property.invariant.cost corpus stands,
      searched_count c.args.index.now c.args.token.now c.args.prefixed c.loop-property.property corpus below,
      searched_total c.args.index.now corpus stands c.args.token.now c.args.prefixed,
    ))

pub returns-clause-cost : goal.returns-clause-cost
returns-clause-cost g c = λ corpus stands. omega (arith, c.loop-property.invariant.cost corpus stands, searched_total c.args.index.now corpus stands c.args.token.now c.args.prefixed)
