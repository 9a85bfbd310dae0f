use Rattle.std.proofs.Common.{ap, sym, subst, ◌∙◌}
use Rattle.std.specs.Prelude.{is_ok}
use Rattle.sq_fql.specs.WellFormed.{IsWellFormed}
use Rattle.sq_typing.specs.Fql.{fql_typed}
use Rattle.sq_lower.proofs.TypedLemmas.{lowered_typed}
use Rattle.sq_lower.proofs.WellFormedLemmas.{lowered_formed}
use Rattle.sq_lower.proofs.lowering.lower.Goals as goal

pub returns-clause-formed : goal.returns-clause-formed
returns-clause-formed c =
    subst IsWellFormed (sym c.in_ok-raw.ensures) (lowered_formed c.args.schema.now c.args.joiner c.args.tree.now c.len-rows.ensures.good c.requires.sound)

pub returns-clause-typed : goal.returns-clause-typed
returns-clause-typed c =
    let schema = c.args.schema.now in
    let given = lowered_typed c.names_find_rows.ensures c.numbers_read_back.ensures c.moments_read_back.ensures c.moments_are_written.ensures schema c.args.joiner c.args.tree.now c.len-rows.ensures.good c.requires.sound.parts in
    ap is_ok (ap (fql_typed schema) c.in_ok-raw.ensures ∙ given)
