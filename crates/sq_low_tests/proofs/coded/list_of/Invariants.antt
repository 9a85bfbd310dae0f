use Rattle.std.proofs.Common.{◌≡◌, true, length, []}
use Rattle.std.specs.Prelude.{slice_index_or}
use Rattle.sq_coded.specs.Coded.{may_follow}
use Rattle.sq_coded.specs.declared.posting.Posting.{Posting}
use Rattle.sq_low_tests.proofs.coded.list_of.Given as goal

abbrev pub invariant-loop-row : goal.invariant-loop-row
invariant-loop-row l = record {
  one : length l.growing ≡ 1;
  behind : (next : Posting) → next.row ≡ l.row → may_follow (slice_index_or l.growing 0 []) next ≡ true;
}
