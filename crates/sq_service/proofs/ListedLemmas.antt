-- Values and items as they are listed, one after the other.
use Rattle.std.proofs.Common.{◌≡◌, ℕ, ◌+◌, ◌<◌, ◌≤◌, List, [], ◌∷◌, ◌++◌, map, drop, length, get_or, option_to_list, sym, ap, ◌∙◌, append_assoc, arith}
use Rattle.std.specs.Prelude.{slice_get, option_map, sum_by}
use Rattle.std.proofs.lemmas.List.{drop_more}
use Rattle.std.proofs.lemmas.List.Sums.{sum_by-cons}
use Rattle.std.proofs.lemmas.Option.{slice_get-get_or}

-- one element more
pub mapped_next : {X Y : Type 0} (f : X → Y) (xs : List X) (i : ℕ) (d : X) (done more all : List Y) → i < length xs
    → more ≡ done ++ option_to_list (option_map f (slice_get xs i)) → done ++ map f (drop i xs) ≡ all → more ++ map f (drop (i + 1) xs) ≡ all
mapped_next {X} {Y} f xs i d done more all within step before =
    let here = ap (λ one. done ++ option_to_list (option_map f one)) (slice_get-get_or xs i d within) in
    ap (λ (front : List Y). front ++ map f (drop (i + 1) xs)) (step ∙ here) ∙ append_assoc done (f (get_or xs i d) ∷ []) (map f (drop (i + 1) xs))
    ∙ ap (λ (left : List X). done ++ map f left) (sym (drop_more xs i d within)) ∙ before

-- what one element costs is paid by what is left
pub paid : {X : Type 0} (f : X → ℕ) (xs : List X) (i : ℕ) (d : X) (before now after : ℕ) → i < length xs
    → after ≤ now + f (get_or xs i d) → now + sum_by f (drop i xs) ≤ before + sum_by f xs → after ≤ before + sum_by f xs
paid f xs i d before now after within step most =
    let left = ap (sum_by f) (drop_more xs i d within) ∙ sum_by-cons f (get_or xs i d) (drop (i + 1) xs) in
    omega (arith, left, step, most)
