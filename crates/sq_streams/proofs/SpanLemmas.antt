-- Ordered lists of spans, and least spans of single tokens.
use Rattle.std.proofs.Common.{◌≡◌, ◌⊎◌, inl, inr, ◌<◌, Bool, true, false, ◌&&◌, ◌||◌, cond, List, [], ◌∷◌, refl, sym, ◌∙◌, ap, arith}
use Rattle.std.specs.Prelude.{nat_lt, nat_le}
use Rattle.std.proofs.lemmas.Bool.{eq-eqb}
use Rattle.std.proofs.lemmas.Bool.Decides.{nat_tests}
use Rattle.std.proofs.lemmas.List.{append-nil}
use Rattle.sq_cursor.specs.declared.span.Span.{Span}
use Rattle.sq_cursor.specs.Spans.{passage_of, is_passage_before, comes_after, all_come_after, are_ordered}
use Rattle.sq_model.proofs.Members.{IsIn}
use Rattle.sq_near.specs.Covers.{merged_spans}
use Rattle.sq_near.specs.Least.{contains, with_span, least_of}

pub and_left : (a b : Bool) → a && b ≡ true → a ≡ true
and_left true b e = refl
and_left false b e = e

pub and_right : (a b : Bool) → a && b ≡ true → b ≡ true
and_right true b e = e
and_right false true e = refl
and_right false false e = e

or_left : (a b : Bool) → a ≡ true → a || b ≡ true
or_left a b e = rw e refl

or_right : (a b : Bool) → b ≡ true → a || b ≡ true
or_right true b e = refl
or_right false b e = e

not_true : (b : Bool) → (b ≡ true → ⊥) → b ≡ false
not_true true h = absurd (h refl)
not_true false h = refl

-- ---- order

pub after_part : (a b : Span) → a.row ≡ b.row → a.part < b.part → comes_after a b ≡ true
after_part a b e l =
    let t : nat_lt a.part b.part ≡ true = grind (arith, nat_tests, l) in
    or_left _ _ (or_right (nat_lt a.row b.row) _ (rw (eq-eqb a.row b.row e, t) refl))

pub after_ends : (a b : Span) → a.row ≡ b.row → a.part ≡ b.part → a.first < b.first → a.last < b.last → comes_after a b ≡ true
after_ends a b e f l m =
    let s : nat_lt a.first b.first ≡ true = grind (arith, nat_tests, l) in
    let t : nat_lt a.last b.last ≡ true = grind (arith, nat_tests, m) in
    or_right (is_passage_before (passage_of a) (passage_of b)) _ (rw (eq-eqb a.row b.row e, eq-eqb a.part b.part f, s, t) refl)

twice : (a b : Span) → comes_after a b ≡ true → comes_after b a ≡ true → ⊥
twice a b e f = grind (arith, nat_tests)

after_all : (a t : Span) (spans : List Span) → all_come_after a spans ≡ true → IsIn t spans → comes_after a t ≡ true
after_all a t [] h i = absurd i
after_all a t (b ∷ spans) h (inl e) = ap (comes_after a) e ∙ and_left (comes_after a b) (all_come_after a spans) h
after_all a t (b ∷ spans) h (inr i) = after_all a t spans (and_right (comes_after a b) (all_come_after a spans) h) i

rest_ordered : (x : Span) (xs : List Span) → are_ordered (x ∷ xs) ≡ true → are_ordered xs ≡ true
rest_ordered x xs o = and_right (all_come_after x xs) (are_ordered xs) (and_right (nat_le x.first x.last) (all_come_after x xs && are_ordered xs) o)

rest_after : (x : Span) (xs : List Span) → are_ordered (x ∷ xs) ≡ true → all_come_after x xs ≡ true
rest_after x xs o = and_left (all_come_after x xs) (are_ordered xs) (and_right (nat_le x.first x.last) (all_come_after x xs && are_ordered xs) o)

-- ordered lists with the same members are the same
pub ordered_same : (xs ys : List Span) → are_ordered xs ≡ true → are_ordered ys ≡ true → ((t : Span) → IsIn t xs → IsIn t ys) → ((t : Span) → IsIn t ys → IsIn t xs) → xs ≡ ys
ordered_same [] [] o p f g = refl
ordered_same [] (y ∷ ys) o p f g = absurd (g y (inl refl))
ordered_same (x ∷ xs) [] o p f g = absurd (f x (inl refl))
ordered_same (x ∷ xs) (y ∷ ys) o p f g = head_tail (first_same (f x (inl refl)) (g y (inl refl))) (ordered_same xs ys oo pp)
  where
    oo : are_ordered xs ≡ true
    oo = rest_ordered x xs o

    pp : are_ordered ys ≡ true
    pp = rest_ordered y ys p

    after_x : (t : Span) → IsIn t xs → comes_after x t ≡ true
    after_x t h = after_all x t xs (rest_after x xs o) h

    after_y : (t : Span) → IsIn t ys → comes_after y t ≡ true
    after_y t h = after_all y t ys (rest_after y ys p) h

    first_same : IsIn x (y ∷ ys) → IsIn y (x ∷ xs) → x ≡ y
    first_same (inl e) h = e
    first_same (inr h) (inl e) = sym e
    first_same (inr h) (inr k) = absurd (twice x y (after_x y k) (after_y x h))

    without : (a t : Span) (zs : List Span) → comes_after a t ≡ true → IsIn t (a ∷ zs) → IsIn t zs
    without a t zs e (inl q) = absurd (twice a a (ap (comes_after a) (sym q) ∙ e) (ap (comes_after a) (sym q) ∙ e))
    without a t zs e (inr h) = h

    head_tail : x ≡ y → (((t : Span) → IsIn t xs → IsIn t ys) → ((t : Span) → IsIn t ys → IsIn t xs) → xs ≡ ys) → x ∷ xs ≡ y ∷ ys
    head_tail e more =
        ap (λ z. z ∷ xs) e
        ∙ ap (λ zs. y ∷ zs) (more
        (λ t h. without y t ys (ap (λ z. comes_after z t) (sym e) ∙ after_x t h) (f t (inr h)))
        (λ t h. without x t xs (ap (λ z. comes_after z t) e ∙ after_y t h) (g t (inr h))))

-- ---- the least spans of an ordered list

in_front : (s : Span) (spans : List Span) → all_come_after s spans ≡ true → with_span s spans ≡ s ∷ spans
in_front s [] h = refl
in_front s (t ∷ spans) h =
    let yes : comes_after s t ≡ true = and_left (comes_after s t) (all_come_after s spans) h in
    let no : comes_after t s ≡ false = not_true (comes_after t s) (λ e. twice s t yes e) in
    rw (no, yes) refl

least_ordered : (spans : List Span) → are_ordered spans ≡ true → least_of spans ≡ spans
least_ordered [] o = refl
least_ordered (s ∷ spans) o =
    let proper : nat_le s.first s.last ≡ true = and_left (nat_le s.first s.last) (all_come_after s spans && are_ordered spans) o in
    rw proper (ap (with_span s) (least_ordered spans (rest_ordered s spans o)) ∙ in_front s spans (rest_after s spans o))

-- a merge of one list is the list
pub merged_one : (spans : List Span) → are_ordered spans ≡ true → merged_spans (spans ∷ []) ≡ spans
merged_one spans o = ap least_of (append-nil spans) ∙ least_ordered spans o

-- ---- the least of single tokens

abbrev pub AreSingle : List Span → Type 0
AreSingle spans = (x : Span) → IsIn x spans → x.first ≡ x.last

span_same : (s t : Span) → s.row ≡ t.row → s.part ≡ t.part → s.first ≡ t.first → s.last ≡ t.last → s ≡ t
span_same s t a b c d = λ i. record { row = a i; part = b i; first = c i; last = d i }

-- of two single tokens one comes after the other, or they are the same
same_place : (s t : Span) → s.first ≡ s.last → t.first ≡ t.last → comes_after t s ≡ false → comes_after s t ≡ false → s ≡ t
same_place s t e f g h =
    let row : s.row ≡ t.row = grind (arith, nat_tests, g, h) in
    let part : s.part ≡ t.part = grind (arith, nat_tests, g, h, row) in
    let first : s.first ≡ t.first = grind (arith, nat_tests, g, h, row, part, e, f) in
    span_same s t row part first (sym e ∙ first ∙ f)

of_with : (s x : Span) (spans : List Span) → IsIn x (with_span s spans) → (x ≡ s) ⊎ IsIn x spans
of_with s x [] (inl e) = inl e
of_with s x [] (inr h) = absurd h
of_with s x (t ∷ spans) h = by (comes_after t s) (comes_after s t) (contains s t) (of_with s x spans) h
  where
    later : (x ≡ s) ⊎ IsIn x spans → (x ≡ s) ⊎ IsIn x (t ∷ spans)
    later (inl e) = inl e
    later (inr k) = inr (inr k)

    by : (a b c : Bool) → (IsIn x (with_span s spans) → (x ≡ s) ⊎ IsIn x spans) →
        IsIn x (cond a (t ∷ with_span s spans) (cond b (s ∷ t ∷ spans) (cond c (t ∷ spans) (with_span s spans)))) → (x ≡ s) ⊎ IsIn x (t ∷ spans)
    by true b c more (inl e) = inr (inl e)
    by true b c more (inr k) = later (more k)
    by false true c more (inl e) = inl e
    by false true c more (inr k) = inr k
    by false false true more k = inr k
    by false false false more k = later (more k)

-- the spans with s have s, and all others
to_with : (s x : Span) (spans : List Span) → s.first ≡ s.last → AreSingle spans → (x ≡ s) ⊎ IsIn x spans → IsIn x (with_span s spans)
to_with s x [] e single (inl p) = inl p
to_with s x [] e single (inr h) = absurd h
to_with s x (t ∷ spans) e single h =
    by (comes_after t s) refl (comes_after s t) refl (contains s t) (to_with s x spans e (λ y i. single y (inr i))) h
  where
    by : (a : Bool) → comes_after t s ≡ a → (b : Bool) → comes_after s t ≡ b → (c : Bool) → ((x ≡ s) ⊎ IsIn x spans → IsIn x (with_span s spans)) → (x ≡ s) ⊎ IsIn x (t ∷ spans) →
        IsIn x (cond a (t ∷ with_span s spans) (cond b (s ∷ t ∷ spans) (cond c (t ∷ spans) (with_span s spans))))
    by true f b g c more (inl p) = inr (more (inl p))
    by true f b g c more (inr (inl q)) = inl q
    by true f b g c more (inr (inr i)) = inr (more (inr i))
    by false f true g c more (inl p) = inl p
    by false f true g c more (inr i) = inr i
    by false f false g c more k = same (same_place s t e (single t (inl refl)) f g) c more k
      where
        same : s ≡ t → (c : Bool) → ((x ≡ s) ⊎ IsIn x spans → IsIn x (with_span s spans)) → (x ≡ s) ⊎ IsIn x (t ∷ spans) → IsIn x (cond c (t ∷ spans) (with_span s spans))
        same q true more (inl p) = inl (p ∙ q)
        same q true more (inr i) = i
        same q false more (inl p) = more (inl p)
        same q false more (inr (inl p)) = more (inl (p ∙ sym q))
        same q false more (inr (inr i)) = more (inr i)

pub of_single : (spans : List Span) (x : Span) → IsIn x (least_of spans) → IsIn x spans
of_single [] x h = absurd h
of_single (s ∷ spans) x h = by (nat_le s.first s.last) (of_single spans x) h
  where
    later : (IsIn x (least_of spans) → IsIn x spans) → (x ≡ s) ⊎ IsIn x (least_of spans) → IsIn x (s ∷ spans)
    later more (inl e) = inl e
    later more (inr k) = inr (more k)

    by : (b : Bool) → (IsIn x (least_of spans) → IsIn x spans) → IsIn x (cond b (with_span s (least_of spans)) (least_of spans)) → IsIn x (s ∷ spans)
    by true more k = later more (of_with s x (least_of spans) k)
    by false more k = inr (more k)

pub to_single : (spans : List Span) (x : Span) → AreSingle spans → IsIn x spans → IsIn x (least_of spans)
to_single [] x single h = absurd h
to_single (s ∷ spans) x single h =
    let e = single s (inl refl) in
    let proper : nat_le s.first s.last ≡ true = grind (arith, nat_tests, e) in
    rw proper (to_with s x (least_of spans) e (λ y i. single y (inr (of_single spans y i))) (by (to_single spans x (λ y i. single y (inr i))) h))
  where
    by : (IsIn x spans → IsIn x (least_of spans)) → IsIn x (s ∷ spans) → (x ≡ s) ⊎ IsIn x (least_of spans)
    by more (inl p) = inl p
    by more (inr i) = inr (more i)
