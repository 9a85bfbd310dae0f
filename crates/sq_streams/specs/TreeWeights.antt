-- How code builds weights, each once, and choices of them.
use Rattle.std.specs.Prelude.{ℕ, not, nat_eq, List, [], ◌∷◌, ◌++◌, map, filter, flat_map}

-- the number behind the others, and at no other place
abbrev pub with_last : List ℕ → ℕ → List ℕ
with_last ns n = filter (λ m. not (nat_eq m n)) ns ++ n ∷ []

abbrev pub with_all : List ℕ → List ℕ → List ℕ
with_all ns [] = ns
with_all ns (m ∷ ms) = with_all (with_last ns m) ms

-- each choice with each of the numbers behind it
abbrev pub extended : List (List ℕ) → List ℕ → List (List ℕ)
extended chosen ns = flat_map (λ c. map (λ n. c ++ n ∷ []) ns) chosen
