-- The least spans of a list are its only ordered base.
use Rattle.std.proofs.Common.{◌≡◌, ◌⊎◌, inl, inr, ℕ, ◌<◌, ◌≤◌, Bool, true, false, ◌&&◌, ◌||◌, cond, List, [], ◌∷◌, refl, sym, ◌∙◌, ap, subst, arith, true≢false}
use mathlib.Core.Logic.{⊎_elim}
use Rattle.std.specs.Prelude.{nat_lt, nat_le}
use Rattle.std.proofs.lemmas.Bool.{eq-eqb, cases_order}
use Rattle.std.proofs.lemmas.Bool.Decides.{nat_tests}
use Rattle.sq_cursor.specs.declared.span.Span.{Span}
use Rattle.sq_cursor.specs.Spans.{passage_of, is_passage_before, comes_after, all_come_after, are_ordered}
use Rattle.sq_near.specs.Least.{contains, with_span, least_of, ordered_least}
use Rattle.sq_model.proofs.Members.{IsIn}

-- x reaches from l's beginning or before it to its end or behind it
pub record Wraps (x l : Span) : Type 0 where
  pub row : x.row ≡ l.row
  pub part : x.part ≡ l.part
  pub first : x.first ≤ l.first
  pub last : l.last ≤ x.last

pub wraps_itself : (x : Span) → Wraps x x
wraps_itself x = record { row = refl; part = refl; first = omega arith; last = omega arith }

pub wraps_chain : (x y z : Span) → Wraps x y → Wraps y z → Wraps x z
wraps_chain x y z g h = record { row = g.row ∙ h.row; part = g.part ∙ h.part; first = omega (arith, g.first, h.first); last = omega (arith, g.last, h.last) }

-- some of the spans, so that each proper span wraps one of them
pub record IsBase (spans few : List Span) : Type 0 where
  pub some : (t : Span) → IsIn t few → IsIn t spans
  pub below : (x : Span) → IsIn x spans → nat_le x.first x.last ≡ true → (l : Span) × IsIn l few × Wraps x l

-- ---- order and wrapping

or_left : (a b : Bool) → a ≡ true → a || b ≡ true
or_left a b e = rw e refl

or_right : (a b : Bool) → b ≡ true → a || b ≡ true
or_right true b e = refl
or_right false b e = e

pub after_row : (a b : Span) → a.row < b.row → comes_after a b ≡ true
after_row a b l = let t : nat_lt a.row b.row ≡ true = grind (arith, nat_tests) in rw t refl

pub after_part : (a b : Span) → a.row ≡ b.row → a.part < b.part → comes_after a b ≡ true
after_part a b e l =
    let t : nat_lt a.part b.part ≡ true = grind (arith, nat_tests) in
    or_left _ _ (or_right (nat_lt a.row b.row) _ (rw (eq-eqb a.row b.row e, t) refl))

pub after_ends : (a b : Span) → a.row ≡ b.row → a.part ≡ b.part → a.first < b.first → a.last < b.last → comes_after a b ≡ true
after_ends a b e f l m =
    let s : nat_lt a.first b.first ≡ true = grind (arith, nat_tests) in
    let t : nat_lt a.last b.last ≡ true = grind (arith, nat_tests) in
    or_right (is_passage_before (passage_of a) (passage_of b)) _ (rw (eq-eqb a.row b.row e, eq-eqb a.part b.part f, s, t) refl)

pub not_both : {P : Type 0} (b : Bool) → b ≡ true → b ≡ false → P
not_both b e f = absurd (true≢false (sym e ∙ f))

same_row : (a b : Span) → comes_after a b ≡ false → comes_after b a ≡ false → a.row ≡ b.row
same_row a b e f = ⊎_elim (λ s. s) (λ l. ⊎_elim (λ m. not_both _ (after_row a b m) e) (λ m. not_both _ (after_row b a m) f) l) (cases_order a.row b.row)

same_part : (a b : Span) → comes_after a b ≡ false → comes_after b a ≡ false → a.part ≡ b.part
same_part a b e f =
    let r = same_row a b e f in
    ⊎_elim (λ s. s) (λ l. ⊎_elim (λ m. not_both _ (after_part a b r m) e) (λ m. not_both _ (after_part b a (sym r) m) f) l) (cases_order a.part b.part)

pub contains_of : (x l : Span) → x.first ≤ l.first → l.last ≤ x.last → contains x l ≡ true
contains_of x l a b =
    let s : nat_le x.first l.first ≡ true = grind (arith, nat_tests) in
    let t : nat_le l.last x.last ≡ true = grind (arith, nat_tests) in
    rw (s, t) refl

-- neither comes after the other, and s doesn't contain t: then t wraps s
wrapped : (s t : Span) → comes_after t s ≡ false → comes_after s t ≡ false → contains s t ≡ false → Wraps t s
wrapped s t e f g =
    let r = same_row t s e f in let p = same_part t s e f in
    let ends : (t.first ≤ s.first) × (s.last ≤ t.last) =
    ⊎_elim
    (λ same. ⊎_elim (λ q. (omega (arith, same), omega (arith, q))) (λ l. ⊎_elim
    (λ m. not_both _ (contains_of s t (omega (arith, same)) (omega (arith, m))) g)
    (λ m. (omega (arith, same), omega (arith, m))) l) (cases_order t.last s.last))
    (λ l. ⊎_elim
    (λ m. ⊎_elim (λ q. (omega (arith, m), omega (arith, q))) (λ k. ⊎_elim
    (λ n. not_both _ (after_ends t s r p m n) e)
    (λ n. (omega (arith, m), omega (arith, n))) k) (cases_order t.last s.last))
    (λ m. ⊎_elim (λ q. not_both _ (contains_of s t (omega (arith, m)) (omega (arith, q))) g) (λ k. ⊎_elim
    (λ n. not_both _ (contains_of s t (omega (arith, m)) (omega (arith, n))) g)
    (λ n. not_both _ (after_ends s t (sym r) (sym p) m n) f) k) (cases_order t.last s.last))
    l)
    (cases_order t.first s.first) in
    record { row = r; part = p; first = ends.0; last = ends.1 }

wraps_of : (s t : Span) → comes_after t s ≡ false → comes_after s t ≡ false → contains s t ≡ true → Wraps s t
wraps_of s t e f g = record {
  row = sym (same_row t s e f);
  part = sym (same_part t s e f);
  first = grind (arith, nat_tests);
  last = grind (arith, nat_tests);
}

-- ---- with_span

in_with : (t s : Span) (spans : List Span) → IsIn t (with_span s spans) → (t ≡ s) ⊎ IsIn t spans
in_with t s [] h = h
in_with t s (x ∷ spans) h = at (comes_after x s) (comes_after s x) (contains s x) h (in_with t s spans)
  where
    at : (b c d : Bool) → IsIn t (cond b (x ∷ with_span s spans) (cond c (s ∷ x ∷ spans) (cond d (x ∷ spans) (with_span s spans)))) →
        (IsIn t (with_span s spans) → (t ≡ s) ⊎ IsIn t spans) → (t ≡ s) ⊎ ((t ≡ x) ⊎ IsIn t spans)
    at true c d (inl e) more = inr (inl e)
    at true c d (inr h) more = ⊎_elim (λ e. inl e) (λ k. inr (inr k)) (more h)
    at false true d h more = h
    at false false true h more = inr h
    at false false false h more = ⊎_elim (λ e. inl e) (λ k. inr (inr k)) (more h)

-- each of the spans and s wraps one that stands
stands_in : (s : Span) (spans : List Span) (x : Span) → (x ≡ s) ⊎ IsIn x spans → (l : Span) × IsIn l (with_span s spans) × Wraps x l
stands_in s [] x (inl e) = (x, inl e, wraps_itself x)
stands_in s [] x (inr h) = absurd h
stands_in s (t ∷ spans) x h = at (comes_after t s) refl (comes_after s t) refl (contains s t) refl h (stands_in s spans)
  where
    at : (b : Bool) → comes_after t s ≡ b → (c : Bool) → comes_after s t ≡ c → (d : Bool) → contains s t ≡ d → (x ≡ s) ⊎ ((x ≡ t) ⊎ IsIn x spans) →
        ((y : Span) → (y ≡ s) ⊎ IsIn y spans → (l : Span) × IsIn l (with_span s spans) × Wraps y l) →
        (l : Span) × IsIn l (cond b (t ∷ with_span s spans) (cond c (s ∷ t ∷ spans) (cond d (t ∷ spans) (with_span s spans)))) × Wraps x l
    at true e c f d g (inl k) more = let r = more x (inl k) in (r.0, inr r.1, r.2)
    at true e c f d g (inr (inl k)) more = (x, inl k, wraps_itself x)
    at true e c f d g (inr (inr k)) more = let r = more x (inr k) in (r.0, inr r.1, r.2)
    at false e true f d g k more = (x, k, wraps_itself x)
    at false e false f true g (inl k) more = (t, inl refl, subst (λ y. Wraps y t) (sym k) (wraps_of s t e f g))
    at false e false f true g (inr k) more = (x, k, wraps_itself x)
    at false e false f false g (inl k) more = more x (inl k)
    at false e false f false g (inr (inl k)) more =
        let r = more s (inl refl) in (r.0, r.1, wraps_chain x s r.0 (subst (λ y. Wraps y s) (sym k) (wrapped s t e f g)) r.2)
    at false e false f false g (inr (inr k)) more = more x (inr k)

-- ---- the base of a list

pub base_least : (spans : List Span) → IsBase spans (least_of spans)
base_least [] = record { some = λ t h. h; below = λ x h e. absurd h }
base_least (s ∷ spans) = at (nat_le s.first s.last) refl (base_least spans)
  where
    at : (b : Bool) → nat_le s.first s.last ≡ b → IsBase spans (least_of spans) → IsBase (s ∷ spans) (cond b (with_span s (least_of spans)) (least_of spans))
    at true e base = record {
      some = λ t h. ⊎_elim (λ k. inl k) (λ k. inr (base.some t k)) (in_with t s (least_of spans) h);
      below = λ x h p. ⊎_elim
          (λ k. stands_in s (least_of spans) x (inl k))
          (λ k. let r = base.below x k p in let q = stands_in s (least_of spans) r.0 (inr r.1) in (q.0, q.1, wraps_chain x r.0 q.0 r.2 q.2)) h;
    }
    at false e base = record {
      some = λ t h. inr (base.some t h);
      below = λ x h p. ⊎_elim (λ k. not_both _ (ap (λ (y : Span). nat_le y.first y.last) (sym k) ∙ p) e) (λ k. base.below x k p) h;
    }

pub base_chain : (a b c : List Span) → are_ordered b ≡ true → IsBase a b → IsBase b c → IsBase a c
base_chain a b c o h k = record {
  some = λ t i. h.some t (k.some t i);
  below = λ x i p. let r = h.below x i p in let q = k.below r.0 r.1 (proper r.0 b r.1 o) in (q.0, q.1, wraps_chain x r.0 q.0 r.2 q.2);
}
  where
    first_true : (a b : Bool) → a && b ≡ true → a ≡ true
    first_true true b e = refl
    first_true false b e = e

    both_true : (a b : Bool) → a && b ≡ true → b ≡ true
    both_true true b e = e
    both_true false b e = absurd (true≢false (sym e))

    proper : (t : Span) (spans : List Span) → IsIn t spans → are_ordered spans ≡ true → nat_le t.first t.last ≡ true
    proper t [] h o = absurd h
    proper t (s ∷ spans) (inl e) o = ap (λ (y : Span). nat_le y.first y.last) e ∙ first_true _ _ o
    proper t (s ∷ spans) (inr h) o = proper t spans h (both_true _ _ (both_true (nat_le s.first s.last) _ o))

-- ---- only one ordered base

and_first : (a b : Bool) → a && b ≡ true → a ≡ true
and_first true b e = refl
and_first false b e = e

and_second : (a b : Bool) → a && b ≡ true → b ≡ true
and_second true b e = e
and_second false b e = absurd (true≢false (sym e))

pub proper_in : (t : Span) (spans : List Span) → IsIn t spans → are_ordered spans ≡ true → nat_le t.first t.last ≡ true
proper_in t [] h o = absurd h
proper_in t (s ∷ spans) (inl e) o = ap (λ (y : Span). nat_le y.first y.last) e ∙ and_first _ _ o
proper_in t (s ∷ spans) (inr h) o = proper_in t spans h (and_second _ _ (and_second (nat_le s.first s.last) _ o))

after_all : (a t : Span) (spans : List Span) → all_come_after a spans ≡ true → IsIn t spans → comes_after a t ≡ true
after_all a t [] e h = absurd h
after_all a t (s ∷ spans) e (inl p) = ap (comes_after a) p ∙ and_first _ _ e
after_all a t (s ∷ spans) e (inr h) = after_all a t spans (and_second _ _ e) h

-- what comes after a span neither wraps it nor lies in it
not_after : (a b : Span) → comes_after a b ≡ true → a.row ≡ b.row → a.part ≡ b.part → (a.first < b.first) × (a.last < b.last)
not_after a b e r p = (grind (arith, nat_tests), grind (arith, nat_tests))

-- of an ordered list, one that wraps another is the other
pub wraps_same : (spans : List Span) (s t : Span) → are_ordered spans ≡ true → IsIn s spans → IsIn t spans → Wraps s t → s ≡ t
wraps_same [] s t o h k w = absurd h
wraps_same (x ∷ spans) s t o (inl e) (inl f) w = e ∙ sym f
wraps_same (x ∷ spans) s t o (inl e) (inr k) w =
    let after : comes_after s t ≡ true = ap (λ y. comes_after y t) e ∙ after_all x t spans (and_first _ _ (and_second (nat_le x.first x.last) _ o)) k in
    let ends = not_after s t after w.row w.part in absurd (omega (arith, ends.1, w.last))
wraps_same (x ∷ spans) s t o (inr h) (inl f) w =
    let after : comes_after t s ≡ true = ap (λ y. comes_after y s) f ∙ after_all x s spans (and_first _ _ (and_second (nat_le x.first x.last) _ o)) h in
    let ends = not_after t s after (sym w.row) (sym w.part) in absurd (omega (arith, ends.0, w.first))
wraps_same (x ∷ spans) s t o (inr h) (inr k) w = wraps_same spans s t (and_second _ _ (and_second (nat_le x.first x.last) _ o)) h k w

pub same_span : (s t : Span) → Wraps s t → Wraps t s → s ≡ t
same_span s t w v =
    let first : s.first ≡ t.first = omega (arith, w.first, v.first) in
    let last : s.last ≡ t.last = omega (arith, w.last, v.last) in
    ap (λ n. made n s.part s.first s.last) w.row ∙ ap (λ n. made t.row n s.first s.last) w.part
    ∙ ap (λ n. made t.row t.part n s.last) first ∙ ap (λ n. made t.row t.part t.first n) last
  where
    made : ℕ → ℕ → ℕ → ℕ → Span
    made row part first last = record { row = row; part = part; first = first; last = last }

-- two ordered bases have the same members
one_base : (spans xs ys : List Span) → are_ordered xs ≡ true → are_ordered ys ≡ true → IsBase spans xs → IsBase spans ys → (t : Span) → IsIn t xs → IsIn t ys
one_base spans xs ys o p h k t i =
    let r = k.below t (h.some t i) (proper_in t xs i o) in
    let q = h.below r.0 (k.some r.0 r.1) (proper_in r.0 ys r.1 p) in
    let back : t ≡ q.0 = wraps_same xs t q.0 o i q.1 (wraps_chain t r.0 q.0 r.2 q.2) in
    let same : t ≡ r.0 = same_span t r.0 r.2 (subst (λ y. Wraps r.0 y) (sym back) q.2) in
    subst (λ y. IsIn y ys) (sym same) r.1

pub rest_ordered : (x : Span) (xs : List Span) → are_ordered (x ∷ xs) ≡ true → are_ordered xs ≡ true
rest_ordered x xs o = and_second (all_come_after x xs) _ (and_second (nat_le x.first x.last) _ o)

pub rest_after : (x : Span) (xs : List Span) → are_ordered (x ∷ xs) ≡ true → all_come_after x xs ≡ true
rest_after x xs o = and_first _ (are_ordered xs) (and_second (nat_le x.first x.last) _ o)

-- ordered lists with the same members are the same
pub ordered_same : (xs ys : List Span) → are_ordered xs ≡ true → are_ordered ys ≡ true → ((t : Span) → IsIn t xs → IsIn t ys) → ((t : Span) → IsIn t ys → IsIn t xs) → xs ≡ ys
ordered_same [] [] o p f g = refl
ordered_same [] (y ∷ ys) o p f g = absurd (g y (inl refl))
ordered_same (x ∷ xs) [] o p f g = absurd (f x (inl refl))
ordered_same (x ∷ xs) (y ∷ ys) o p f g = head_tail (first_same (f x (inl refl)) (g y (inl refl))) (ordered_same xs ys oo pp)
  where
    oo : are_ordered xs ≡ true
    oo = rest_ordered x xs o

    pp : are_ordered ys ≡ true
    pp = rest_ordered y ys p

    after_x : (t : Span) → IsIn t xs → comes_after x t ≡ true
    after_x t h = after_all x t xs (rest_after x xs o) h

    after_y : (t : Span) → IsIn t ys → comes_after y t ≡ true
    after_y t h = after_all y t ys (rest_after y ys p) h

    twice : (a b : Span) → comes_after a b ≡ true → comes_after b a ≡ true → ⊥
    twice a b e f = grind (arith, nat_tests)

    first_same : IsIn x (y ∷ ys) → IsIn y (x ∷ xs) → x ≡ y
    first_same (inl e) h = e
    first_same (inr h) (inl e) = sym e
    first_same (inr h) (inr k) = absurd (twice x y (after_x y k) (after_y x h))

    without : (a t : Span) (zs : List Span) → comes_after a t ≡ true → IsIn t (a ∷ zs) → IsIn t zs
    without a t zs e (inl q) = absurd (twice a a (ap (comes_after a) (sym q) ∙ e) (ap (comes_after a) (sym q) ∙ e))
    without a t zs e (inr h) = h

    head_tail : x ≡ y → (((t : Span) → IsIn t xs → IsIn t ys) → ((t : Span) → IsIn t ys → IsIn t xs) → xs ≡ ys) → x ∷ xs ≡ y ∷ ys
    head_tail e more =
        ap (λ z. z ∷ xs) e
        ∙ ap (λ zs. y ∷ zs) (more
        (λ t h. without y t ys (ap (λ z. comes_after z t) (sym e) ∙ after_x t h) (f t (inr h)))
        (λ t h. without x t xs (ap (λ z. comes_after z t) e ∙ after_y t h) (g t (inr h))))

pub base_only : (spans few : List Span) → are_ordered few ≡ true → IsBase spans few → few ≡ least_of spans
base_only spans few o h =
    ordered_same few (least_of spans) o (ordered_least spans)
    (one_base spans few (least_of spans) o (ordered_least spans) h (base_least spans))
    (one_base spans (least_of spans) few (ordered_least spans) o (base_least spans) h)
