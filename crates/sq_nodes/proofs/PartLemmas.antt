-- Loops over parts, each of which is replaced by one that says the same of later rows.
use Rattle.std.proofs.Common.{◌≡◌, ℕ, ◌+◌, ◌<◌, ◌≤◌, Bool, true, false, not, ◌||◌, List, [], ◌∷◌, Option, Some, None, map, take, drop, length, sum_by, get_or, refl, sym, ap, ◌∙◌, arith, zero, suc, add-one}
use Rattle.std.specs.Prelude.{ℤ, pos, ◌+ℤ◌, is_some, sum, IfSome, nat_lt}
use Rattle.std.specs.List.{list_any}
use Rattle.std.proofs.Math.ListN.{set, length-set}
use Rattle.std.proofs.Math.Seq.{drop-cons, map-set_same}
use Rattle.std.proofs.lemmas.List.{drop-set-lt, drop_all, take-set, take_more_set, take_all}
use Rattle.std.proofs.lemmas.List.Sums.{sum_by-set, sum-map}
use Rattle.std.proofs.lemmas.Bool.Decides.{nat_tests}
use Rattle.std.proofs.lemmas.List.Folds.{list_any-append}
use Rattle.sq_nodes.specs.Leaves.{IsBefore, earlier}
use Rattle.sq_nodes.specs.Scores.{saturated, all_from, some_from, added, scores_of, all_scores, some_scores, some_holds}

abbrev pub fails : Option ℤ → Bool
fails score = not (is_some score)

or_true : (b : Bool) → b || true ≡ true
or_true true = refl
or_true false = refl

module _ {X : Type 0} where
  -- the part at i, which was x, is now y, and f can't tell them apart
  pub kept_part : {Y : Type 0} (f : X → Y) (items firsts : List X) (i : ℕ) (x y : X) → x ≡ get_or items i x → f y ≡ f x → map f items ≡ map f firsts →
      map f (set items i y) ≡ map f firsts
  kept_part f items firsts i x y is same before = map-set_same f items i y x (same ∙ ap f is) ∙ before

  pub cost_part : (rest : X → ℕ) (items : List X) (i : ℕ) (x y : X) (before after all : ℕ) → i < length items → x ≡ get_or items i x →
      after + rest y ≤ before + rest x → before + sum_by rest items ≤ all → after + sum_by rest (set items i y) ≤ all
  cost_part rest items i x y before after all l is step most = omega (arith, sum_by-set rest items i y x l, ap rest is)

  pub same_length : (items : List X) (i : ℕ) (y : X) (n : ℕ) → length items ≡ n → length (set items i y) ≡ n
  same_length items i y n e = simp length-set e

  pub cost_sum : (rest : X → ℕ) (items : List X) (i : ℕ) (x y : X) (before after all : ℕ) → i < length items → x ≡ get_or items i x →
      after + rest y ≤ before + rest x → before + sum (map rest items) ≤ all → after + sum (map rest (set items i y)) ≤ all
  cost_sum rest items i x y before after all l is step most =
      omega (arith, sum_by-set rest items i y x l, ap rest is, sum-map rest items, sum-map rest (set items i y))

  pub split_at : (items : List X) (i : ℕ) (x : X) → i < length items → x ≡ get_or items i x → drop i items ≡ x ∷ drop (i + 1) items
  split_at items i x l is = drop-cons items i x l ∙ ap (λ k. get_or items i x ∷ drop k items) (sym (add-one i)) ∙ ap (λ z. z ∷ drop (i + 1) items) (sym is)

  -- ---- whether some part passes a test

  pub any_map : {Y : Type 0} (p : Y → Bool) (f : X → Y) (xs : List X) → list_any p (map f xs) ≡ list_any (λ x. p (f x)) xs
  any_map p f [] = refl
  any_map p f (x ∷ xs) = ap (λ b. p (f x) || b) (any_map p f xs)

  pub any_same : (p : X → Bool) (xs ys : List X) → map p xs ≡ map p ys → list_any p xs ≡ list_any p ys
  any_same p xs ys e = sym (any_map (λ b. b) p xs) ∙ ap (list_any (λ b. b)) e ∙ any_map (λ b. b) p ys

  -- the first i parts don't pass, nor does the part at i
  pub none_more : (p : X → Bool) (items : List X) (i : ℕ) (y : X) → i < length items → p y ≡ false → list_any p (take i items) ≡ false →
      list_any p (take (i + 1) (set items i y)) ≡ false
  none_more p items i y l other none =
      ap (list_any p) (take_more_set items i y l) ∙ list_any-append p (take i items) (y ∷ []) ∙ rw (none, other) refl

  pub none_all : (p : X → Bool) (items : List X) (i : ℕ) → length items ≤ i → list_any p (take i items) ≡ false → list_any p items ≡ false
  none_all p items i l none = sym (ap (list_any p) (take_all i items l)) ∙ none

  -- the part at i passes, or one before it does
  pub some_here : (p : X → Bool) (items : List X) (i : ℕ) (y : X) → i < length items → p y ≡ true → list_any p (take (i + 1) (set items i y)) ≡ true
  some_here p items i y l here =
      ap (list_any p) (take_more_set items i y l) ∙ list_any-append p (take i items) (y ∷ []) ∙ rw here (or_true (list_any p (take i items)))

  pub some_more : (p : X → Bool) (items : List X) (i : ℕ) (y : X) → i < length items → list_any p (take i items) ≡ true →
      list_any p (take (i + 1) (set items i y)) ≡ true
  some_more p items i y l some =
      ap (list_any p) (take_more_set items i y l) ∙ list_any-append p (take i items) (y ∷ []) ∙ rw some refl

  pub some_taken : (p : X → Bool) (items : List X) (i : ℕ) → list_any p (take i items) ≡ true → list_any p items ≡ true
  some_taken p items zero e = absurd (false_not e)
    where
      false_not : false ≡ true → ⊥
      false_not h = cc
  some_taken p [] (suc i) e = e
  some_taken p (x ∷ items) (suc i) e = at (p x) (some_taken p items i) e
    where
      at : (b : Bool) → (list_any p (take i items) ≡ true → list_any p items ≡ true) → b || list_any p (take i items) ≡ true → b || list_any p items ≡ true
      at true more h = refl
      at false more h = more h

  pub some_at : (p : X → Bool) (items : List X) (i : ℕ) (x : X) → i < length items → x ≡ get_or items i x → p x ≡ true → list_any p items ≡ true
  some_at p [] i x l is e = absurd (omega arith)
  some_at p (z ∷ items) zero x l is e = let here : p z ≡ true = ap p (sym is) ∙ e in rw here refl
  some_at p (z ∷ items) (suc i) x l is e = let within : i < length items = omega arith in rw (some_at p items i x within is e) (or_true (p z))

  -- ---- scores, where each part has one

  pub scores_map : (f : X → ℕ → Option ℤ) (items : List X) (r : ℕ) → scores_of (map f items) r ≡ map (λ x. f x r) items
  scores_map f [] r = refl
  scores_map f (x ∷ items) r = ap (λ ss. f x r ∷ ss) (scores_map f items r)

  pub all_next : (f : X → Option ℤ) (items : List X) (i : ℕ) (x y : X) (total boost : ℤ) (all : Option ℤ) → i < length items → x ≡ get_or items i x → f x ≡ Some boost →
      all_from total (map f (drop i items)) ≡ all → all_from (saturated (total +ℤ boost)) (map f (drop (i + 1) (set items i y))) ≡ all
  all_next f items i x y total boost all l is has e =
      ap (λ xs. all_from (saturated (total +ℤ boost)) (map f xs)) (drop-set-lt (i + 1) items i y (omega arith))
      ∙ sym (ap (λ o. all_from total (o ∷ map f (drop (i + 1) items))) has)
      ∙ sym (ap (λ xs. all_from total (map f xs)) (split_at items i x l is)) ∙ e

  pub all_stop : (f : X → Option ℤ) (items : List X) (i : ℕ) (x : X) (total : ℤ) (all : Option ℤ) → i < length items → x ≡ get_or items i x → f x ≡ None →
      all_from total (map f (drop i items)) ≡ all → None ≡ all
  all_stop f items i x total all l is has e =
      sym (ap (λ o. all_from total (o ∷ map f (drop (i + 1) items))) has)
      ∙ sym (ap (λ xs. all_from total (map f xs)) (split_at items i x l is)) ∙ e

  pub all_end : (f : X → Option ℤ) (items : List X) (i : ℕ) (total : ℤ) (all : Option ℤ) → length items ≤ i → all_from total (map f (drop i items)) ≡ all → Some total ≡ all
  all_end f items i total all l e = sym (ap (λ xs. all_from total (map f xs)) (drop_all i items l)) ∙ e

  pub some_next : (f : X → Option ℤ) (items : List X) (i : ℕ) (x y : X) (total all : Option ℤ) → i < length items → x ≡ get_or items i x →
      some_from total (map f (drop i items)) ≡ all → some_from (added total (f x)) (map f (drop (i + 1) (set items i y))) ≡ all
  some_next f items i x y total all l is e =
      ap (λ xs. some_from (added total (f x)) (map f xs)) (drop-set-lt (i + 1) items i y (omega arith))
      ∙ sym (ap (λ xs. some_from total (map f xs)) (split_at items i x l is)) ∙ e

  pub some_end : (f : X → Option ℤ) (items : List X) (i : ℕ) (total all : Option ℤ) → length items ≤ i → some_from total (map f (drop i items)) ≡ all → total ≡ all
  some_end f items i total all l e = sym (ap (λ xs. some_from total (map f xs)) (drop_all i items l)) ∙ e

-- a score is nothing where one of all is
pub all_fails : (total : ℤ) (scores : List (Option ℤ)) → list_any fails scores ≡ true → all_from total scores ≡ None
all_fails total [] e = absurd (false_not e)
  where
    false_not : false ≡ true → ⊥
    false_not h = cc
all_fails total (None ∷ scores) e = refl
all_fails total (Some boost ∷ scores) e = all_fails (saturated (total +ℤ boost)) scores e

-- and where none of some is there
pub some_fails : (scores : List (Option ℤ)) → list_any is_some scores ≡ false → some_from None scores ≡ None
some_fails [] e = refl
some_fails (None ∷ scores) e = some_fails scores e
some_fails (Some boost ∷ scores) e = absurd (true_not e)
  where
    true_not : true ≡ false → ⊥
    true_not h = cc

in_two : (P : Type 0) (to r : ℕ) → (r < to → P) → (to ≤ r → P) → P
in_two P to r less more = at (nat_lt r to) refl
  where
    at : (b : Bool) → nat_lt r to ≡ b → P
    at true e = less (grind (arith, nat_tests))
    at false e = more (grind (arith, nat_tests))

-- ---- scores of parts that each say what they score by row

module _ {X : Type 0} where
  pub all_same : (f : X → ℕ → Option ℤ) (xs ys : List X) (r : ℕ) → map (λ x. f x r) xs ≡ map (λ x. f x r) ys → all_scores (map f xs) r ≡ all_scores (map f ys) r
  all_same f xs ys r e = ap (all_from (pos 0)) (scores_map f xs r ∙ e ∙ sym (scores_map f ys r))

  pub some_same : (f : X → ℕ → Option ℤ) (xs ys : List X) (r : ℕ) → map (λ x. f x r) xs ≡ map (λ x. f x r) ys → some_scores (map f xs) r ≡ some_scores (map f ys) r
  some_same f xs ys r e = ap (some_from None) (scores_map f xs r ∙ e ∙ sym (scores_map f ys r))

  pub holds_same : (f : X → ℕ → Option ℤ) (xs ys : List X) (r : ℕ) → map (λ x. f x r) xs ≡ map (λ x. f x r) ys → some_holds (map f xs) r ≡ some_holds (map f ys) r
  holds_same f xs ys r e = ap (list_any is_some) (scores_map f xs r ∙ e ∙ sym (scores_map f ys r))

  pub all_of : (f : X → ℕ → Option ℤ) (xs : List X) (r : ℕ) → all_from (pos 0) (map (λ x. f x r) xs) ≡ all_scores (map f xs) r
  all_of f xs r = ap (all_from (pos 0)) (sym (scores_map f xs r))

  pub some_of : (f : X → ℕ → Option ℤ) (xs : List X) (r : ℕ) → some_from None (map (λ x. f x r) xs) ≡ some_scores (map f xs) r
  some_of f xs r = ap (some_from None) (sym (scores_map f xs r))

  pub holds_of : (f : X → ℕ → Option ℤ) (xs : List X) (r : ℕ) → list_any (λ x. is_some (f x r)) xs ≡ some_holds (map f xs) r
  holds_of f xs r = sym (any_map is_some (λ x. f x r) xs) ∙ ap (list_any is_some) (sym (scores_map f xs r))

  pub all_none : (f : X → ℕ → Option ℤ) (xs : List X) (r : ℕ) → list_any (λ x. fails (f x r)) xs ≡ true → all_scores (map f xs) r ≡ None
  all_none f xs r e = sym (all_of f xs r) ∙ all_fails (pos 0) (map (λ x. f x r) xs) (any_map fails (λ x. f x r) xs ∙ e)

  pub some_none : (f : X → ℕ → Option ℤ) (xs : List X) (r : ℕ) → list_any (λ x. is_some (f x r)) xs ≡ false → some_scores (map f xs) r ≡ None
  some_none f xs r e = sym (some_of f xs r) ∙ some_fails (map (λ x. f x r) xs) (any_map is_some (λ x. f x r) xs ∙ e)

  -- ---- one part after another, asked whether it holds

  pub any_next : (p : X → Bool) (items : List X) (i : ℕ) (x y : X) (all : Bool) → i < length items → x ≡ get_or items i x → p x ≡ false →
      list_any p (drop i items) ≡ all → list_any p (drop (i + 1) (set items i y)) ≡ all
  any_next p items i x y all l is other e =
      ap (list_any p) (drop-set-lt (i + 1) items i y (omega arith)) ∙ sym (ap (λ b. b || list_any p (drop (i + 1) items)) other)
      ∙ sym (ap (list_any p) (split_at items i x l is)) ∙ e

  pub any_stop : (p : X → Bool) (items : List X) (i : ℕ) (x : X) (all : Bool) → i < length items → x ≡ get_or items i x → p x ≡ true → list_any p (drop i items) ≡ all → true ≡ all
  any_stop p items i x all l is here e = sym (ap (λ b. b || list_any p (drop (i + 1) items)) here) ∙ sym (ap (list_any p) (split_at items i x l is)) ∙ e

  pub any_end : (p : X → Bool) (items : List X) (i : ℕ) (all : Bool) → length items ≤ i → list_any p (drop i items) ≡ all → false ≡ all
  any_end p items i all l e = sym (ap (list_any p) (drop_all i items l)) ∙ e

  -- ---- rows that some part passes, up to a row

  pub passed_more : (f : X → Option ℤ) (items : List X) (i : ℕ) (y : X) (to r : ℕ) → i < length items → (r < to → list_any (λ x. fails (f x)) (take i items) ≡ true) → (to ≤ r → f y ≡ None) →
      list_any (λ x. fails (f x)) (take (i + 1) (set items i y)) ≡ true
  passed_more f items i y to r l less more =
      in_two (list_any (λ x. fails (f x)) (take (i + 1) (set items i y)) ≡ true) to r
      (λ b. more_of items i y l (less b)) (λ k. here_of items i y l (ap fails (more k)))
    where
      more_of : (items : List X) (i : ℕ) (y : X) → i < length items → list_any (λ x. fails (f x)) (take i items) ≡ true → list_any (λ x. fails (f x)) (take (i + 1) (set items i y)) ≡ true
      more_of items i y l e = some_more (λ x. fails (f x)) items i y l e

      here_of : (items : List X) (i : ℕ) (y : X) → i < length items → fails (f y) ≡ true → list_any (λ x. fails (f x)) (take (i + 1) (set items i y)) ≡ true
      here_of items i y l e = some_here (λ x. fails (f x)) items i y l e

  pub failed_more : (f : X → Option ℤ) (items firsts : List X) (i : ℕ) (x : X) (to r : ℕ) → i < length items → x ≡ get_or items i x →
      (r < to → list_any (λ z. fails (f z)) firsts ≡ true) → (to ≤ r → (f x ≡ None) × (map f items ≡ map f firsts)) → list_any (λ z. fails (f z)) firsts ≡ true
  failed_more f items firsts i x to r l is less more =
      in_two (list_any (λ z. fails (f z)) firsts ≡ true) to r less
      (λ k. let facts = more k in
      sym (any_map fails f firsts) ∙ ap (list_any fails) (sym facts.1) ∙ any_map fails f items ∙ some_at (λ z. fails (f z)) items i x l is (ap fails facts.0))

  pub later_all : (f : X → ℕ → Option ℤ) (xs ys : List X) (to r : ℕ) → (r < to → list_any (λ x. fails (f x r)) xs ≡ true) → (r < to → list_any (λ x. fails (f x r)) ys ≡ true) →
      (to ≤ r → map (λ x. f x r) xs ≡ map (λ x. f x r) ys) → all_scores (map f xs) r ≡ all_scores (map f ys) r
  later_all f xs ys to r left right more =
      in_two (all_scores (map f xs) r ≡ all_scores (map f ys) r) to r (λ b. all_none f xs r (left b) ∙ sym (all_none f ys r (right b))) (λ k. all_same f xs ys r (more k))

  pub taken_kept : (p : X → Bool) (items : List X) (i : ℕ) (y : X) → list_any p (take i items) ≡ true → list_any p (set items i y) ≡ true
  taken_kept p items i y e = some_taken p (set items i y) i (ap (list_any p) (take-set items i y) ∙ e)

-- ---- the first of two rows

pub before_first : (r : ℕ) (a b : Option ℕ) → IsBefore r (earlier a b) → IsBefore r a
before_first r None b l = tt
before_first r (Some a) None l = l
before_first r (Some a) (Some b) l = omega arith

pub before_second : (r : ℕ) (a b : Option ℕ) → IsBefore r (earlier a b) → IsBefore r b
before_second r None b l = l
before_second r (Some a) None l = tt
before_second r (Some a) (Some b) l = omega arith

pub forward_both : (row : ℕ) (a b : Option ℕ) → IfSome a (λ to. row ≤ to) → IfSome b (λ to. row ≤ to) → IfSome (earlier a b) (λ to. row ≤ to)
forward_both row None b f g = g
forward_both row (Some a) None f g = f
forward_both row (Some a) (Some b) f g = omega arith
