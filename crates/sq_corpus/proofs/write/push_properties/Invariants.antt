use Rattle.std.proofs.Common.{◌≡◌, ◌++◌, drop, string_bytes}
use Rattle.std.specs.List.{flat_map}
use Rattle.sq_corpus.specs.Written.{property_line}
use Rattle.sq_corpus.proofs.write.push_properties.Given as goal

abbrev pub invariant-loop-row : goal.invariant-loop-row
invariant-loop-row l =
    string_bytes l.out ++ flat_map property_line (drop l.row l.schema) ≡ string_bytes l.fn.out ++ flat_map property_line l.schema
