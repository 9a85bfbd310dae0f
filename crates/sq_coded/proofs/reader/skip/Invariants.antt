use Rattle.std.proofs.Common.{◌≡◌, ◌-◌, ℕ, ◌≤◌, drop, length}
use Rattle.std.specs.Prelude.{slice_index_or, []}
use Rattle.sq_coded.specs.Coded.{coded}
use Rattle.sq_coded.specs.Reading.{entries_from}
use Rattle.sq_coded.proofs.reader.skip.Given as goal

abbrev pub invariant-loop-last : goal.invariant-loop-last
invariant-loop-last l =
    let entries = slice_index_or l.lists l.list [] in
    record {
      block : drop l.place (coded entries) ≡ coded (drop l.number entries);
      kept : (ordinal : ℕ) → entries_from l.row ordinal (drop l.number entries) ≡ entries_from l.row ordinal (drop l.at entries);
      on : l.at ≤ l.number;
    }

abbrev pub decreases-loop-last : goal.decreases-loop-last
decreases-loop-last l = length (coded (slice_index_or l.lists l.list [])) - l.place
