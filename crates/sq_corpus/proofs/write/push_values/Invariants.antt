use Rattle.std.proofs.Common.{◌≡◌, ◌++◌, drop, string_bytes}
use Rattle.sq_corpus.specs.Written.{row_lines}
use Rattle.sq_corpus.proofs.write.push_values.Given as goal

abbrev pub invariant-loop-row : goal.invariant-loop-row
invariant-loop-row l =
    string_bytes l.out ++ row_lines l.values l.row (drop l.row l.schema) ≡ string_bytes l.fn.out ++ row_lines l.values 0 l.schema
