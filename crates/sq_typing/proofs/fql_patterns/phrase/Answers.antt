use Rattle.std.proofs.Common.{ap, sym, ◌∙◌}
use Rattle.std.specs.Prelude.{Ok}
use Rattle.sq_typing.proofs.FqlLemmas.{parts_some, parts_plain}
use Rattle.sq_typing.proofs.fql_patterns.phrase.Goals as goal

pub joined-requires-clause-some : goal.joined-requires-clause-some
joined-requires-clause-some c =
    parts_some c.args.operands.now c.as_slice.result.now (sym c.is_empty.ensures ∙ c.if-is_empty.false) (ap Ok c.as_slice.ensures ∙ (sym c.in-Ok.is ∙ c.in_ok-parts.ensures))

pub joined-requires-clause-plain : goal.joined-requires-clause-plain
joined-requires-clause-plain c =
    parts_plain c.args.operands.now c.as_slice.result.now (ap Ok c.as_slice.ensures ∙ (sym c.in-Ok.is ∙ c.in_ok-parts.ensures))
