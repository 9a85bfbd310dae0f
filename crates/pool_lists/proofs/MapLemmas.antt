-- Lemmas on lists that are mapped by functions that agree on most elements, and on words of chains.
use Rattle.std.proofs.Common.{◌≡◌, ◌≢◌, ℕ, zero, suc, ◌<◌, List, [], ◌∷◌, length, get_or, set, map, refl, ap, ◌∙◌, arith, Option}
use Rattle.std.specs.Prelude.{unwrap_or}
use Rattle.sq_pool.specs.Pool.{Held, Holding, chain_at, words_of}

pub map_same : {Y : Type 0} (f g : ℕ → Y) (xs : List ℕ) → ((j : ℕ) → j < length xs → f (get_or xs j 0) ≡ g (get_or xs j 0)) → map f xs ≡ map g xs
map_same f g [] same = refl
map_same f g (x ∷ xs) same =
    ap (λ y. y ∷ map f xs) (same 0 (omega arith)) ∙ ap (λ ys. g x ∷ ys) (map_same f g xs (λ j less. same (suc j) (omega arith)))

pub map_but_one : {Y : Type 0} (f g : ℕ → Y) (xs : List ℕ) (i : ℕ) → i < length xs
    → ((j : ℕ) → j < length xs → j ≢ i → f (get_or xs j 0) ≡ g (get_or xs j 0)) → map f xs ≡ set (map g xs) i (f (get_or xs i 0))
map_but_one f g [] i below same = absurd (omega arith)
map_but_one f g (x ∷ xs) zero below same =
    ap (λ ys. f x ∷ ys) (map_same f g xs (λ j less. same (suc j) (omega arith) (omega arith)))
map_but_one f g (x ∷ xs) (suc i) below same =
    ap (λ y. y ∷ map f xs) (same 0 (omega arith) (omega arith))
    ∙ ap (λ ys. g x ∷ ys) (map_but_one f g xs i (omega arith) (λ j less apart. same (suc j) (omega arith) (omega arith)))

-- a chain that stays has its words
pub words_stay : (old new : Holding) (chain : ℕ) → chain_at new chain ≡ chain_at old chain → words_of new chain ≡ words_of old chain
words_stay old new chain stays = ap (λ (slot : Option Held). (unwrap_or {T = Held} slot (record { words = []; slices = [] })).words) stays
