-- Words on lists that several definitions use.
use Rattle.std.specs.Prelude.{Bool, true, false, List, [], ◌∷◌, flat_map, ℤ, pos, ◌+ℤ◌}

abbrev pub is_empty : {X : Type 0} → List X → Bool
is_empty [] = true
is_empty (x ∷ xs) = false

-- the lists one after the other
abbrev pub joined : {X : Type 0} → List (List X) → List X
joined lists = flat_map (λ xs. xs) lists

-- the sum of numbers
abbrev pub total : List ℤ → ℤ
total [] = pos 0
total (n ∷ ns) = n +ℤ (total ns)
