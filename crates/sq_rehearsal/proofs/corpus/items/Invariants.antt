use Rattle.std.proofs.Common.{◌≡◌, map}
use Rattle.std.specs.List.{range_with_len}
use Rattle.sq_rehearsal.specs.Rehearsal.{item}
use Rattle.sq_rehearsal.proofs.corpus.items.Given as goal

abbrev pub invariant-loop-before : goal.invariant-loop-before
invariant-loop-before l = l.items ≡ map item (range_with_len 1 l.before)
