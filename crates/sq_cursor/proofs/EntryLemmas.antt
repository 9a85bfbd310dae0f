-- How the entries of a list are counted.
use Rattle.std.proofs.Common.{◌≡◌, ℕ, ◌+◌, ◌<◌, List, [], ◌∷◌, length, drop, refl, arith, zero, suc}
use Rattle.sq_cursor.specs.Entries.{entries_behind, first_count}

-- the first entry and those behind it are all
pub entries_counted : {X : Type 0} (xs : List X) → first_count xs + entries_behind xs ≡ length xs
entries_counted [] = refl
entries_counted (x ∷ xs) = omega arith

pub first_count-drop : {X : Type 0} (n : ℕ) (xs : List X) → n < length xs → first_count (drop n xs) ≡ 1
first_count-drop n [] l = absurd (omega arith)
first_count-drop zero (x ∷ xs) l = refl
first_count-drop (suc n) (x ∷ xs) l = first_count-drop n xs (omega arith)
