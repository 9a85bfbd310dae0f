use Rattle.std.proofs.Common.{sym, ◌∙◌}
use Rattle.sq_coded.proofs.SeekLemmas.{stops}
use Rattle.sq_coded.proofs.reader.Reader.seek.Goals as goal

pub returns-then-is_from-clause-left : goal.returns-then-is_from-clause-left
returns-then-is_from-clause-left g c =
    sym (stops c.args.row c.args.ordinal c.loop-here.self c.in-Some.here c.in-Some.ensures.rises (sym c.in-Some.ensures.value) (sym c.is_from.ensures ∙ c.if-is_from.true))
    ∙ c.loop-here.invariant.left
