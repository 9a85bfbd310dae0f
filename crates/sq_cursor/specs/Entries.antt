-- How a cursor counts the entries of its list.
use Rattle.std.specs.Prelude.{ℕ, List, [], ◌∷◌, length}

-- how many entries stand behind the first
abbrev pub entries_behind : {X : Type 0} → List X → ℕ
entries_behind [] = 0
entries_behind (x ∷ xs) = length xs

-- the steps of coming to the first entry: one, and none where there is no entry
abbrev pub first_count : {X : Type 0} → List X → ℕ
first_count [] = 0
first_count (x ∷ xs) = 1
