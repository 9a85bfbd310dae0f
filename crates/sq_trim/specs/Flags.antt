-- Rows as flags.
use Rattle.std.specs.Prelude.{◌≡◌, ℕ, ◌+◌, ◌<◌, Bool, true, false, cond, if◌then◌else◌, List, [], ◌∷◌, length, drop, map, Option, Some, None, slice_set, refl}
use Rattle.std.proofs.Common.{arith}
use Rattle.sq_cursor.specs.Rows.{AllAbove, IsRising}
use Rattle.sq_postings.specs.Indexed.{Indexed}

-- the rows that are flagged, of which the first has this number
abbrev pub flagged : ℕ → List Bool → List ℕ
flagged row [] = []
flagged row (flag ∷ flags) = if flag then row ∷ flagged (row + 1) flags else flagged (row + 1) flags

-- the rows from a flagged one on
abbrev pub left_of : Option ℕ → List Bool → List ℕ
left_of None flags = []
left_of (Some row) flags = row ∷ flagged (row + 1) (drop (row + 1) flags)

-- the flags with those of these rows set
abbrev pub marked : Bool → List ℕ → List Bool → List Bool
marked flag [] flags = flags
marked flag (row ∷ rows) flags = marked flag rows (slice_set flags row flag)

abbrev pub marked_all : Bool → List (List ℕ) → List Bool → List Bool
marked_all flag [] flags = flags
marked_all flag (rows ∷ lists) flags = marked_all flag lists (marked flag rows flags)

flagged_above : (low row : ℕ) (flags : List Bool) → low < row → AllAbove low (flagged row flags)
flagged_above low row [] l = tt
flagged_above low row (flag ∷ flags) l = at flag (flagged_above low (row + 1) flags (omega (arith, l)))
  where
    at : (b : Bool) → AllAbove low (flagged (row + 1) flags) → AllAbove low (cond b (row ∷ flagged (row + 1) flags) (flagged (row + 1) flags))
    at true h = (l, h)
    at false h = h

flagged_rises : (row : ℕ) (flags : List Bool) → IsRising (flagged row flags)
flagged_rises row [] = tt
flagged_rises row (flag ∷ flags) = at flag (flagged_rises (row + 1) flags)
  where
    at : (b : Bool) → IsRising (flagged (row + 1) flags) → IsRising (cond b (row ∷ flagged (row + 1) flags) (flagged (row + 1) flags))
    at true h = (flagged_above row (row + 1) flags (omega arith), h)
    at false h = h

pub left_rises : (next : Option ℕ) (flags : List Bool) → IsRising (left_of next flags)
left_rises None flags = tt
left_rises (Some row) flags = (flagged_above row (row + 1) (drop (row + 1) flags) (omega arith), flagged_rises (row + 1) (drop (row + 1) flags))
