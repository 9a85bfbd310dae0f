use Rattle.std.proofs.Common.{ap, sym, ◌∙◌}
use Rattle.sq_model.specs.Copies.{distinct}
use Rattle.sq_typing.proofs.SumLemmas.{sums_of_two}
use Rattle.sq_typing.proofs.forms.near_forms.Goals as goal

pub returns-in_ok-weights-in-Some : goal.returns-in_ok-weights-in-Some
returns-in_ok-weights-in-Some c = (
  c.in_ok-weights-in-Some.ensures
      ∙ ap distinct (c.as_slice.ensures.value ∙ (c.in_ok-sums-in-Some.ensures ∙ sym (sums_of_two c.args.firsts.now c.args.seconds.now))),
  c.in-Some.ensures.0,
  c.in-Some.ensures.1,
)
