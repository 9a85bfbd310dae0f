-- One step of a loop over a list, or over a range.
use Rattle.std.proofs.Common.{◌≡◌, ℕ, ◌+◌, ◌-◌, ◌<◌, ◌≤◌, List, [], ◌∷◌, ◌++◌, map, drop, sym, ap, ◌∙◌, arith, slice_get, Some, suc, append_assoc}
use Rattle.std.specs.List.{range_with_len}
use Rattle.std.proofs.lemmas.List.{append-nil, drop_more}
use Rattle.std.proofs.lemmas.Option.{slice_get_within, get_or_from_slice_get}

pub map_turn : {X Y : Type 0} (f : X → Y) (xs : List X) (i : ℕ) (x : X) (now new whole : List Y) → slice_get xs i ≡ Some x → new ≡ now ++ f x ∷ []
    → now ++ map f (drop i xs) ≡ whole → new ++ map f (drop (i + 1) xs) ≡ whole
map_turn f xs i x now new whole at grows held =
    ap (λ l. l ++ map f (drop (i + 1) xs)) grows ∙ append_assoc now (f x ∷ []) (map f (drop (i + 1) xs))
    ∙ ap (λ l. now ++ map f l) (sym here) ∙ held
  where
    here : drop i xs ≡ x ∷ drop (i + 1) xs
    here = drop_more xs i x (slice_get_within xs i x at) ∙ ap (λ y. y ∷ drop (i + 1) xs) (get_or_from_slice_get xs i x x at)

range_step : (i n : ℕ) → i < n → range_with_len i (n - i) ≡ i ∷ range_with_len (i + 1) (n - (i + 1))
range_step i n l = let e : n - i ≡ suc (n - (i + 1)) = omega arith in ap (range_with_len i) e

pub range_turn : {Y : Type 0} (f : ℕ → Y) (i n : ℕ) (now new whole : List Y) → i < n → new ≡ now ++ f i ∷ []
    → now ++ map f (range_with_len i (n - i)) ≡ whole → new ++ map f (range_with_len (i + 1) (n - (i + 1))) ≡ whole
range_turn f i n now new whole l grows held =
    ap (λ l. l ++ map f (range_with_len (i + 1) (n - (i + 1)))) grows ∙ append_assoc now (f i ∷ []) (map f (range_with_len (i + 1) (n - (i + 1))))
    ∙ ap (λ ps. now ++ map f ps) (sym (range_step i n l)) ∙ held

pub range_end : {Y : Type 0} (f : ℕ → Y) (i n : ℕ) (now whole : List Y) → n ≤ i → now ++ map f (range_with_len i (n - i)) ≡ whole → now ≡ whole
range_end f i n now whole past held =
    let e : n - i ≡ 0 = omega (arith, past) in
    sym (append-nil now) ∙ ap (λ k. now ++ map f (range_with_len i k)) (sym e) ∙ held
