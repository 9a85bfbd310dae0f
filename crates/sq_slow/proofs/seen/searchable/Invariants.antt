use Rattle.std.proofs.Common.{◌≡◌, ◌++◌, drop}
use Rattle.sq_model.specs.Passages.{searchable, searchable_from}
use Rattle.sq_slow.proofs.seen.searchable.Given as goal

abbrev pub invariant-loop-row : goal.invariant-loop-row
invariant-loop-row l = l.rows ++ searchable_from l.row (drop l.row l.schema) ≡ searchable l.schema
