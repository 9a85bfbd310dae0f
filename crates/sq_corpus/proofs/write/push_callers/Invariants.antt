use Rattle.std.proofs.Common.{◌≡◌, ◌++◌, length, string_bytes}
use Rattle.std.specs.List.{flat_map}
use Rattle.sq_corpus.specs.Written.{caller_line}
use Rattle.sq_corpus.proofs.write.push_callers.Given as goal

abbrev pub invariant-loop-callers : goal.invariant-loop-callers
invariant-loop-callers l =
    string_bytes l.out ++ flat_map caller_line l.callers ≡ string_bytes l.fn.out ++ flat_map caller_line l.initial.callers

abbrev pub decreases-loop-callers : goal.decreases-loop-callers
decreases-loop-callers l = length l.callers
