use Rattle.std.proofs.Common.{◌≡◌, ◌++◌, drop}
use Rattle.sq_stored.specs.Shown.{shown_values}
use Rattle.sq_stored.specs.Runs.{IsGrown}
use Rattle.sq_stored.proofs.runs.push_values.Given as goal

abbrev pub invariant-loop-value : goal.invariant-loop-value
invariant-loop-value l =
    (l.texts ++ shown_values (drop l.value-index l.values) l.property ≡ l.initial.texts ++ shown_values l.values l.property)
    × IsGrown l.initial.texts l.texts
