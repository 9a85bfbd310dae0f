-- The numbers of all hits in one list, each once for each hit that has it.
use Rattle.std.specs.Prelude.{◌≡◌, ℤ, List}
use Rattle.std.specs.List.{count_by}
use Rattle.std.specs.List.Sorted.{IsSorted}
use Rattle.std.specs.Ordering.{int_cmp, int_eq}
use Rattle.sq_ranking.specs.Ranking.{has}

-- the numbers do not fall, and each stands there as often as hits have it
pub record Gathered (hits : List (List ℤ)) (numbers : List ℤ) : Type 0 where
  pub sorted : IsSorted int_cmp numbers
  pub counts : (value : ℤ) → count_by (int_eq value) numbers ≡ count_by (has value) hits
