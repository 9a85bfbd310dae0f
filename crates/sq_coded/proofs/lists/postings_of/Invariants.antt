use Rattle.std.proofs.Common.{◌≡◌, ◌-◌, ◌≤◌, drop, length}
use Rattle.std.specs.Prelude.{slice_index_or, []}
use Rattle.sq_coded.specs.Coded.{coded}
use Rattle.sq_coded.proofs.lists.postings_of.Given as goal

abbrev pub invariant-loop-last : goal.invariant-loop-last
invariant-loop-last l =
    let entries = slice_index_or l.lists l.list [] in
    record {
      block : drop l.place (coded entries) ≡ coded (drop l.number entries);
      within : l.number ≤ length entries;
    }

abbrev pub decreases-loop-last : goal.decreases-loop-last
decreases-loop-last l = length (coded (slice_index_or l.lists l.list [])) - l.place
