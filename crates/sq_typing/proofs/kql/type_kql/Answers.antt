use Rattle.std.proofs.Common.{subst, sym, ap, ◌∙◌}
use Rattle.std.specs.Prelude.{IfOk}
use Rattle.std.specs.Int.{w64}
use Rattle.std.proofs.lemmas.Int.{to_z-of_z}
use Rattle.sq_model.specs.KqlSound.{IsSound}
use Rattle.sq_typing.specs.Kql.{typed}
use Rattle.sq_typing.proofs.TypedLemmas.{typed_sound}
use Rattle.sq_typing.proofs.ValueLemmas.{Calendar}
use Rattle.sq_typing.proofs.kql.type_kql.Goals as goal

pub returns-clause-sound : goal.returns-clause-sound
returns-clause-sound c =
    let schema = c.args.schema.now in
    let now = c.args.now in
    let calendar : Calendar now = record { dates = c.dates_lie_in_years.ensures; names = λ name. c.names_lie_in_years.ensures name now c.requires.now } in
    let same = ap (λ n. typed schema n c.args.tree.now) (to_z-of_z w64 now c.ranges.now) in
    let found = sym c.in_ok-tree.was ∙ (c.in_ok-outcome.ensures ∙ same) in
    subst (λ o. IfOk o (IsSound schema)) (sym found) (typed_sound schema now calendar c.args.tree.now c.requires.formed)
