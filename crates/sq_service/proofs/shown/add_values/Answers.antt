use Rattle.std.proofs.Common.{rules, ◌<◌, ◌++◌, [], ℕ, List, option_to_list, length, ap, ◌∙◌, arith}
use Rattle.std.specs.Prelude.{slice_get, option_map}
use Rattle.sq_stored.specs.Stored.{values_at}
use Rattle.sq_engine.specs.Answer.{name_of}
use Rattle.sq_service.specs.Listed.{shown_as}
use Rattle.sq_service.proofs.ListedLemmas.{mapped_next}
use Rattle.sq_service.proofs.shown.add_values.Goals as goal

pub loop-i-preserved : goal.loop-i-preserved
loop-i-preserved g c =
    let texts = values_at c.args.stored.now c.args.row c.args.property in
    let within : c.loop-i.i < length texts = search rules in
    record {
      values = mapped_next (shown_as (name_of c.args.schema.now c.args.property)) texts c.loop-i.i [] c.loop-i.all _ _ within
          (c.in_ok-add_value.ensures.value ∙ ap (λ (name : List ℕ). c.loop-i.all ++ option_to_list (option_map (shown_as name) (slice_get texts c.loop-i.i))) c.in_ok-name.ensures)
          c.loop-i.invariant.values;
      cost = omega (arith, c.in_ok-add_value.ensures.cost, c.loop-i.invariant.cost);
    }
