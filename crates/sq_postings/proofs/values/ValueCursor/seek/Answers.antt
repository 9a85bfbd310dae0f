use Rattle.std.proofs.Common.{sym, ◌∙◌}
use Rattle.sq_postings.proofs.ValueLemmas.{pairs_stop}
use Rattle.sq_postings.proofs.values.ValueCursor.seek.Goals as goal

pub returns-then-row-here-clause-left : goal.returns-then-row-here-clause-left
returns-then-row-here-clause-left g c =
    pairs_stop c.args.row c.loop-here.self c.in-Some.here c.here.ensures.rising (sym c.in-Some.ensures.value) c.if-row-here.true ∙ c.loop-here.invariant.kept
