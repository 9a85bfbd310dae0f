use Rattle.std.proofs.Common.{◌≡◌, ◌++◌, true, filter, length, string_bytes}
use Rattle.std.specs.List.{flat_map, list_all}
use Rattle.sq_corpus.specs.Writes.{is_shown}
use Rattle.sq_corpus.specs.Written.{value_line, is_at}
use Rattle.sq_corpus.proofs.write.push_values_of.Given as goal

abbrev pub invariant-loop-values : goal.invariant-loop-values
invariant-loop-values l =
    (string_bytes l.out ++ flat_map (value_line l.name) (filter (is_at l.property) l.values)
    ≡ string_bytes l.fn.out ++ flat_map (value_line l.name) (filter (is_at l.property) l.initial.values))
    × (list_all is_shown l.values ≡ true)

abbrev pub decreases-loop-values : goal.decreases-loop-values
decreases-loop-values l = length l.values
