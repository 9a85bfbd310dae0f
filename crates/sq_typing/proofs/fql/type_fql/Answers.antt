use Rattle.std.proofs.Common.{sym, subst, ◌∙◌}
use Rattle.std.specs.Prelude.{IfOk}
use Rattle.sq_model.specs.FqlSound.{IsSound}
use Rattle.sq_typing.proofs.FqlWhole.{whole_sound}
use Rattle.sq_typing.proofs.fql.type_fql.Goals as goal

pub returns-clause-sound : goal.returns-clause-sound
returns-clause-sound c formed =
    subst (λ o. IfOk o (IsSound c.args.schema.now)) (sym c.in_ok-outcome.ensures ∙ c.in_ok-tree.was) (whole_sound c.args.schema.now c.args.tree.now formed)
