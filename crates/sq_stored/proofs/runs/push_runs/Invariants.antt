use Rattle.std.proofs.Common.{◌≡◌, ◌++◌, ◌-◌, length}
use Rattle.std.specs.List.{All, flat_map, range_with_len}
use Rattle.sq_stored.specs.Shown.{shown_values}
use Rattle.sq_stored.specs.Runs.{IsGrown, IsRunIn, runs_from}
use Rattle.sq_stored.proofs.runs.push_runs.Given as goal

abbrev pub invariant-loop-property : goal.invariant-loop-property
invariant-loop-property l =
    (l.texts ++ flat_map (shown_values l.values) (range_with_len l.property (l.properties - l.property))
    ≡ l.initial.texts ++ flat_map (shown_values l.values) (range_with_len 0 l.properties))
    × (l.runs.items ++ runs_from l.values (length l.texts) (range_with_len l.property (l.properties - l.property))
    ≡ l.initial.runs.items ++ runs_from l.values (length l.initial.texts) (range_with_len 0 l.properties))
    × IsGrown l.initial.texts l.texts
    × IsGrown l.initial.runs.items l.runs.items
    × All (IsRunIn (length l.texts)) l.runs.items
