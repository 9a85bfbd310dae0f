-- A loop that moves one part after another.
use Rattle.std.proofs.Common.{◌≡◌, ℕ, ◌+◌, ◌<◌, ◌≤◌, List, [], ◌∷◌, map, sum_by, length, get_or, refl, sym, ap, ◌∙◌, subst, arith, zero, suc, add-one}
use Rattle.sq_near.specs.Streams.{highest}
use Rattle.std.proofs.Math.ListN.{set}
use Rattle.std.proofs.lemmas.List.{map-set, get_or-map, length-map}
use Rattle.std.proofs.lemmas.List.Sums.{sum_by-set}
use Rattle.sq_cursor.specs.declared.span.Span.{Span}

-- xs with f applied to its first n elements
abbrev pub moved : {X : Type 0} → (X → X) → ℕ → List X → List X
moved f zero xs = xs
moved f (suc n) [] = []
moved f (suc n) (x ∷ xs) = f x ∷ moved f n xs

pub moved-all : {X : Type 0} (f : X → X) (xs : List X) → moved f (length xs) xs ≡ map f xs
moved-all f [] = refl
moved-all f (x ∷ xs) = ap (λ ys. f x ∷ ys) (moved-all f xs)

pub length-moved : {X : Type 0} (f : X → X) (n : ℕ) (xs : List X) → length (moved f n xs) ≡ length xs
length-moved f zero xs = refl
length-moved f (suc n) [] = refl
length-moved f (suc n) (x ∷ xs) = ap suc (length-moved f n xs)

pub get_or-moved : {X : Type 0} (f : X → X) (n : ℕ) (xs : List X) (d : X) → get_or (moved f n xs) n d ≡ get_or xs n d
get_or-moved f zero xs d = refl
get_or-moved f (suc n) [] d = refl
get_or-moved f (suc n) (x ∷ xs) d = get_or-moved f n xs d

moved-step : {X : Type 0} (f : X → X) (n : ℕ) (xs : List X) (d : X) → n < length xs → set (moved f n xs) n (f (get_or xs n d)) ≡ moved f (suc n) xs
moved-step f n [] d l = absurd (omega arith)
moved-step f zero (x ∷ xs) d l = refl
moved-step f (suc n) (x ∷ xs) d l = ap (λ ys. f x ∷ ys) (moved-step f n xs d (omega arith))

pub moved-end : {X : Type 0} (f : X → X) (n : ℕ) (xs : List X) → length xs ≤ n → moved f n xs ≡ map f xs
moved-end f zero [] l = refl
moved-end f zero (x ∷ xs) l = absurd (omega arith)
moved-end f (suc n) [] l = refl
moved-end f (suc n) (x ∷ xs) l = ap (λ ys. f x ∷ ys) (moved-end f n xs (omega arith))

pub same_length : {X : Type 0} (left : X → List Span) (f : List Span → List Span) (n : ℕ) (items firsts : List X) →
    map left items ≡ moved f n (map left firsts) → length items ≡ length firsts
same_length left f n items firsts e = omega (arith, length-map items left, length-map firsts left, ap length e, length-moved f n (map left firsts))

-- when all parts have moved
pub moved_parts : {X : Type 0} (left : X → List Span) (f : List Span → List Span) (n : ℕ) (items firsts : List X) →
    map left items ≡ moved f n (map left firsts) → length firsts ≤ n → map left items ≡ map f (map left firsts)
moved_parts left f n items firsts e l = e ∙ moved-end f n (map left firsts) (omega (arith, length-map firsts left))

-- the part at i, which was x, has moved to y
pub moved_part : {X : Type 0} (left : X → List Span) (f : List Span → List Span) (i : ℕ) (items : List X) (firsts : List (List Span)) (x y : X) →
    map left items ≡ moved f i firsts → i < length items → x ≡ get_or items i x → left y ≡ f (left x) →
    map left (set items i y) ≡ moved f (i + 1) firsts
moved_part left f i items firsts x y e l is moves =
    let within : i < length firsts = omega (arith, length-map items left, ap length e, length-moved f i firsts) in
    let was : left x ≡ get_or firsts i (left x) =
    ap left is ∙ sym (get_or-map left items i x (left x) l) ∙ ap (λ xs. get_or xs i (left x)) e ∙ get_or-moved f i firsts (left x) in
    map-set left items i y ∙ ap (λ xs. set xs i (left y)) e ∙ ap (λ z. set (moved f i firsts) i z) (moves ∙ ap f was)
    ∙ moved-step f i firsts (left x) within ∙ ap (λ n. moved f n firsts) (sym (add-one i))

pub cost_part : {X : Type 0} (rest : X → ℕ) (items : List X) (i : ℕ) (x y : X) (before after all : ℕ) → i < length items → x ≡ get_or items i x →
    after + rest y ≤ before + rest x → before + sum_by rest items ≤ all → after + sum_by rest (set items i y) ≤ all
cost_part rest items i x y before after all l is step most =
    omega (arith, sum_by-set rest items i y x l, ap rest is)

-- the part at i is no deeper than the deepest
pub part_depth : {X : Type 0} (depth : X → ℕ) (items : List X) (i : ℕ) (x : X) → i < length items → x ≡ get_or items i x → depth x ≤ highest (map depth items)
part_depth {X = X} depth items i x l is = subst (λ y. depth y ≤ highest (map depth items)) (sym is) (at items i l)
  where
    at : (items : List X) (i : ℕ) → i < length items → depth (get_or items i x) ≤ highest (map depth items)
    at [] i l = absurd (omega arith)
    at (y ∷ items) zero l = omega arith
    at (y ∷ items) (suc i) l = let more = at items i (omega arith) in omega arith
