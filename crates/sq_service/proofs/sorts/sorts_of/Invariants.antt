use Rattle.std.proofs.Common.{◌≡◌, drop, length, map, true}
use Rattle.std.specs.List.{list_all}
use Rattle.sq_engine.specs.Verdict as verdict
use Rattle.sq_service.specs.Sorts.{sort_of, is_within}
use Rattle.sq_service.proofs.SortLemmas.{behind}
use Rattle.sq_service.proofs.sorts.sorts_of.Given as goal

abbrev pub invariant-loop-i : goal.invariant-loop-i
invariant-loop-i l = record {
  keys : behind (map sort_of l.sorts) (verdict.sort_keys l.schema l.i (drop l.i l.asked)) ≡ verdict.sort_keys l.schema 0 l.asked;
  few : length l.sorts ≡ l.i;
  within : list_all (is_within l.schema) l.sorts ≡ true;
}
