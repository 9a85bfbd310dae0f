use Rattle.std.proofs.Common.{◌≡◌, ◌++◌, length, string_bytes}
use Rattle.sq_corpus.specs.Written.{line_end}
use Rattle.sq_corpus.proofs.write.push_end.Given as goal

abbrev pub invariant-loop-fields : goal.invariant-loop-fields
invariant-loop-fields l = string_bytes l.out ++ line_end l.fields ≡ string_bytes l.fn.out ++ line_end l.initial.fields

abbrev pub decreases-loop-fields : goal.decreases-loop-fields
decreases-loop-fields l = length l.fields
