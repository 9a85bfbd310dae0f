use Rattle.std.proofs.Common.{arith, sym, ◌+◌}
use Rattle.std.proofs.lemmas.List.FromFn.{map-range_with_len_more}
use Rattle.sq_rehearsal.specs.Rehearsal.{item}
use Rattle.sq_rehearsal.proofs.corpus.items.Goals as goal

pub loop-before-preserved : goal.loop-before-preserved
loop-before-preserved c =
    rw (c.in_ok-push.ensures.ok, c.in_ok-item.ensures, c.loop-before.invariant)
    (sym (map-range_with_len_more item 1 c.loop-before.before (c.loop-before.before + 1) (omega arith)))
