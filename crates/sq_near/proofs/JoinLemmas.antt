-- What the moves of a join keep, and that the cover of the first spans leads.
use Rattle.std.proofs.Common.{◌≡◌, ◌⊎◌, inl, inr, ℕ, ◌<◌, ◌≤◌, Bool, true, false, not, ◌&&◌, ◌||◌, cond, List, [], ◌∷◌, map, filter, Option, Some, None, refl, sym, ◌∙◌, ap, subst, arith, true≢false}
use mathlib.Core.Logic.{⊎_elim}
use Rattle.std.specs.Prelude.{eqb, nat_lt}
use Rattle.std.proofs.lemmas.Bool.{eq-eqb, cases_order}
use Rattle.std.proofs.lemmas.Bool.Decides.{nat_tests}
use Rattle.sq_cursor.specs.declared.span.Span.{Span}
use Rattle.sq_cursor.specs.Spans.{passage_of, is_passage_before, comes_after, all_come_after, are_ordered, spans_from}
use Rattle.sq_near.specs.Least.{least_of, ordered_least}
use Rattle.sq_near.specs.Covers.{covers, joined_spans}
use Rattle.sq_near.specs.Streams.{ordered_filter}
use Rattle.sq_near.specs.Moves.{later_passage, furthest_from, AreSome, Keeps, IsInOne}
use Rattle.sq_model.proofs.Members.{IsIn, to_filter, of_filter}
use Rattle.sq_model.proofs.Choices.{IsChoice}
use Rattle.sq_near.proofs.BaseLemmas.{Wraps, base_least, base_only, rest_after}
use Rattle.sq_near.proofs.CoverLemmas.{IsCover, of_cover, to_cover}
use Rattle.sq_near.specs.Laws.{AllOrdered}

-- ---- least spans of lists with the same members, or with those that pass a test

pub least_filtered : (p : Span → Bool) → ((s l : Span) → Wraps s l → p s ≡ true → p l ≡ true) → (all rest : List Span) →
    ((s : Span) → IsIn s all → p s ≡ true → IsIn s rest) → ((s : Span) → IsIn s rest → IsIn s all × (p s ≡ true)) → least_of rest ≡ filter p (least_of all)
least_filtered p inward all rest to of =
    sym (base_only rest (filter p (least_of all)) (ordered_filter p (least_of all) (ordered_least all)) (record {
      some = λ t h. let r = of_filter p t (least_of all) h in to t ((base_least all).some t r.0) r.1;
      below = λ x h q. let m = of x h in let b = (base_least all).below x m.0 q in (b.0, to_filter p b.0 (least_of all) b.1 (inward x b.0 b.2 m.1), b.2);
    }))

pub least_same : (all rest : List Span) → ((s : Span) → IsIn s all → IsIn s rest) → ((s : Span) → IsIn s rest → IsIn s all) → least_of rest ≡ least_of all
least_same all rest to of =
    sym (base_only rest (least_of all) (ordered_least all) (record {
      some = λ t h. to t ((base_least all).some t h);
      below = λ x h q. (base_least all).below x (of x h) q;
    }))

-- ---- some of the spans

pub some_same : (lists : List (List Span)) → AreSome lists lists
some_same [] = tt
some_same (l ∷ lists) = ((λ s h. h), some_same lists)

pub some_chain : (a b c : List (List Span)) → AreSome a b → AreSome b c → AreSome a c
some_chain [] [] c g h = h
some_chain [] (y ∷ b) c g h = absurd g
some_chain (x ∷ a) [] c g h = absurd g
some_chain (x ∷ a) (y ∷ b) [] g h = absurd h
some_chain (x ∷ a) (y ∷ b) (z ∷ c) g h = ((λ s k. h.0 s (g.0 s k)), some_chain a b c g.1 h.1)

pub some_filter : (p : Span → Bool) (lists : List (List Span)) → AreSome (map (filter p) lists) lists
some_filter p [] = tt
some_filter p (l ∷ lists) = ((λ s h. (of_filter p s l h).0), some_filter p lists)

pub in_some : (a b : List (List Span)) → AreSome a b → (x : Span) → IsInOne x a → IsInOne x b
in_some [] b g x h = absurd h
in_some (k ∷ a) [] g x h = absurd g
in_some (k ∷ a) (l ∷ b) g x h = ⊎_elim (λ i. inl (g.0 x i)) (λ i. inr (in_some a b g.1 x i)) h

pub in_filter : (p : Span → Bool) (lists : List (List Span)) (x : Span) → IsInOne x (map (filter p) lists) → p x ≡ true
in_filter p [] x h = absurd h
in_filter p (l ∷ lists) x h = ⊎_elim (λ i. (of_filter p x l i).1) (λ i. in_filter p lists x i) h

choice_some : (xs : List Span) (fews lists : List (List Span)) → AreSome fews lists → IsChoice xs fews → IsChoice xs lists
choice_some [] [] [] h c = tt
choice_some [] [] (l ∷ lists) h c = absurd h
choice_some [] (k ∷ fews) lists h c = absurd c
choice_some (x ∷ xs) [] lists h c = absurd c
choice_some (x ∷ xs) (k ∷ fews) [] h c = absurd h
choice_some (x ∷ xs) (k ∷ fews) (l ∷ lists) h c = (h.0 x c.0, choice_some xs fews lists h.1 c.1)

choice_filter : (p : Span → Bool) (xs : List Span) (lists : List (List Span)) → IsChoice xs lists → ((x : Span) → IsIn x xs → p x ≡ true) → IsChoice xs (map (filter p) lists)
choice_filter p [] [] c h = tt
choice_filter p [] (l ∷ lists) c h = absurd c
choice_filter p (x ∷ xs) [] c h = absurd c
choice_filter p (x ∷ xs) (l ∷ lists) c h = (to_filter p x l c.0 (h x (inl refl)), choice_filter p xs lists c.1 (λ y i. h y (inr i)))

choice_in : (xs : List Span) (lists : List (List Span)) → IsChoice xs lists → (x : Span) → IsIn x xs → IsInOne x lists
choice_in [] lists c x h = absurd h
choice_in (y ∷ xs) [] c x h = absurd c
choice_in (y ∷ xs) (l ∷ lists) c x h = ⊎_elim (λ e. inl (subst (λ s. IsIn s l) (sym e) c.0)) (λ i. inr (choice_in xs lists c.1 x i)) h

-- ---- covers of some of the spans

again : (width : ℕ) (ordered : Bool) (lists few : List (List Span)) (s : Span) (c : IsCover width ordered lists s) → IsChoice c.chosen few → IsIn s (covers width ordered few)
again width ordered lists few s c k =
    to_cover width ordered few s (record { chosen = c.chosen; choice = k; at = c.at; order = c.order; hull = c.hull; near = c.near })

pub covers_some : (width : ℕ) (ordered : Bool) (few lists : List (List Span)) → AreSome few lists → (s : Span) → IsIn s (covers width ordered few) → IsIn s (covers width ordered lists)
covers_some width ordered few lists h s i =
    let c = of_cover width ordered few s i in again width ordered few lists s c (choice_some c.chosen few lists h c.choice)

pub keeps_by : (width : ℕ) (ordered : Bool) (few lists : List (List Span)) → AreSome few lists → ((s : Span) (c : IsCover width ordered lists s) → IsChoice c.chosen few) → Keeps width ordered few lists
keeps_by width ordered few lists h k = record {
  some = h;
  all = λ s i. let c = of_cover width ordered lists s i in again width ordered lists few s c (k s c);
}

pub keeps_same : (width : ℕ) (ordered : Bool) (lists : List (List Span)) → Keeps width ordered lists lists
keeps_same width ordered lists = record { some = some_same lists; all = λ s h. h }

pub keeps_chain : (width : ℕ) (ordered : Bool) (a b c : List (List Span)) → Keeps width ordered a b → Keeps width ordered b c → Keeps width ordered a c
keeps_chain width ordered a b c g h = record { some = some_chain a b c g.some h.some; all = λ s i. g.all s (h.all s i) }

pub keeps_joined : (width : ℕ) (ordered : Bool) (few lists : List (List Span)) → Keeps width ordered few lists → joined_spans width ordered few ≡ joined_spans width ordered lists
keeps_joined width ordered few lists k =
    least_same (covers width ordered lists) (covers width ordered few) k.all (covers_some width ordered few lists k.some)

-- a test that passes all spans of a choice or none: a filter of all lists is one of the covers
module _ (width : ℕ) (ordered : Bool) (p : Span → Bool) (lists : List (List Span)) where
  pub covers_to : ((s : Span) (c : IsCover width ordered lists s) → p s ≡ true → (x : Span) → IsIn x c.chosen → p x ≡ true) →
      (s : Span) → IsIn s (covers width ordered lists) → p s ≡ true → IsIn s (covers width ordered (map (filter p) lists))
  covers_to down s i e =
      let c = of_cover width ordered lists s i in
      again width ordered lists (map (filter p) lists) s c (choice_filter p c.chosen lists c.choice (down s c e))

  pub covers_of : ((s : Span) (c : IsCover width ordered (map (filter p) lists) s) → ((x : Span) → IsIn x c.chosen → p x ≡ true) → p s ≡ true) →
      (s : Span) → IsIn s (covers width ordered (map (filter p) lists)) → IsIn s (covers width ordered lists) × (p s ≡ true)
  covers_of up s i =
      let c = of_cover width ordered (map (filter p) lists) s i in
      (covers_some width ordered (map (filter p) lists) lists (some_filter p lists) s i, up s c (λ x k. in_filter p lists x (choice_in c.chosen (map (filter p) lists) c.choice x k)))

-- ---- order of passages

pub before_not : (a b c d : ℕ) → is_passage_before (a, b) (c, d) ≡ true → is_passage_before (c, d) (a, b) ≡ false
before_not a b c d e = at (is_passage_before (c, d) (a, b)) refl
  where
    both : is_passage_before (a, b) (c, d) ≡ true → is_passage_before (c, d) (a, b) ≡ true → ⊥
    both e f = grind (arith, nat_tests)

    at : (t : Bool) → is_passage_before (c, d) (a, b) ≡ t → t ≡ false
    at true f = absurd (both e f)
    at false f = refl

pub before_itself : (a b : ℕ) → is_passage_before (a, b) (a, b) ≡ false
before_itself a b = at (is_passage_before (a, b) (a, b)) refl
  where
    none : is_passage_before (a, b) (a, b) ≡ true → ⊥
    none e = grind (arith, nat_tests)

    at : (t : Bool) → is_passage_before (a, b) (a, b) ≡ t → t ≡ false
    at true f = absurd (none f)
    at false f = refl

-- where p is not before q, nor q before r, p is not before r
pub not_before_chain : (a b c d e f : ℕ) → is_passage_before (a, b) (c, d) ≡ false → is_passage_before (c, d) (e, f) ≡ false → is_passage_before (a, b) (e, f) ≡ false
not_before_chain a b c d e f g h = at (is_passage_before (a, b) (e, f)) refl
  where
    none : is_passage_before (a, b) (e, f) ≡ true → ⊥
    none k = grind (arith, nat_tests)

    at : (t : Bool) → is_passage_before (a, b) (e, f) ≡ t → t ≡ false
    at true k = absurd (none k)
    at false k = refl

pub neither_before : (a b c d : ℕ) → is_passage_before (a, b) (c, d) ≡ false → is_passage_before (c, d) (a, b) ≡ false → (a ≡ c) × (b ≡ d)
neither_before a b c d e f =
    let row : a ≡ c = ⊎_elim (λ q. q) (λ l. ⊎_elim (λ m. absurd (no e (low a b c d m))) (λ m. absurd (no f (low c d a b m))) l) (cases_order a c) in
    (row, ⊎_elim (λ q. q) (λ l. ⊎_elim (λ m. absurd (no e (next a b c d row m))) (λ m. absurd (no f (next c d a b (sym row) m))) l) (cases_order b d))
  where
    no : {t : Bool} → t ≡ false → t ≡ true → ⊥
    no e f = absurd (true≢false (sym f ∙ e))

    low : (a b c d : ℕ) → a < c → is_passage_before (a, b) (c, d) ≡ true
    low a b c d l = let t : nat_lt a c ≡ true = grind (arith, nat_tests) in rw t refl

    next : (a b c d : ℕ) → a ≡ c → b < d → is_passage_before (a, b) (c, d) ≡ true
    next a b c d e l = let t : nat_lt b d ≡ true = grind (arith, nat_tests) in at (nat_lt a c) (eqb a c) (nat_lt b d) (eq-eqb a c e) t
      where
        at : (x y z : Bool) → y ≡ true → z ≡ true → x || (y && z) ≡ true
        at true y z e f = refl
        at false true z e f = f
        at false false z e f = absurd (true≢false (sym e))

pub is_false : (t : Bool) → not t ≡ true → t ≡ false
is_false true e = absurd (true≢false (sym e))
is_false false e = refl

pub not_true : (t : Bool) → t ≡ false → not t ≡ true
not_true t e = ap not e

-- ---- ordered lists

pub ordered_filters : (p : Span → Bool) (lists : List (List Span)) → AllOrdered lists → AllOrdered (map (filter p) lists)
ordered_filters p [] h = tt
ordered_filters p (l ∷ lists) h = (ordered_filter p l h.0, ordered_filters p lists h.1)

pub and_cases : (a b : Bool) → a && b ≡ true → (a ≡ true) × (b ≡ true)
and_cases true b e = (refl, e)
and_cases false b e = absurd (true≢false (sym e))

pub or_cases : (a b : Bool) → a || b ≡ true → (a ≡ true) ⊎ (b ≡ true)
or_cases true b e = inl refl
or_cases false b e = inr e

pub after_in : (a : Span) (spans : List Span) → all_come_after a spans ≡ true → (x : Span) → IsIn x spans → comes_after a x ≡ true
after_in a [] h x i = absurd i
after_in a (b ∷ spans) h x i =
    let r = and_cases (comes_after a b) (all_come_after a spans) h in
    ⊎_elim (λ e. ap (comes_after a) e ∙ r.0) (λ k. after_in a spans r.1 x k) i

-- y lies in a later passage than x, or begins and ends no earlier there
abbrev pub NotEarlier : Span → Span → Type 0
NotEarlier x y = (is_passage_before (passage_of x) (passage_of y) ≡ true) ⊎ ((y.row ≡ x.row) × (y.part ≡ x.part) × (x.first ≤ y.first) × (x.last ≤ y.last))

after_not_earlier : (a b : Span) → comes_after a b ≡ true → NotEarlier a b
after_not_earlier a b e = ⊎_elim (λ k. inl k) (λ k. inr (same k)) (or_cases (is_passage_before (passage_of a) (passage_of b)) (eqb a.row b.row && (eqb a.part b.part && (nat_lt a.first b.first && nat_lt a.last b.last))) e)
  where
    same : eqb a.row b.row && (eqb a.part b.part && (nat_lt a.first b.first && nat_lt a.last b.last)) ≡ true → (b.row ≡ a.row) × (b.part ≡ a.part) × (a.first ≤ b.first) × (a.last ≤ b.last)
    same k = (grind (arith, nat_tests), grind (arith, nat_tests), grind (arith, nat_tests), grind (arith, nat_tests))

-- the first span of an ordered list
pub head_first : (s : Span) (spans : List Span) → are_ordered (s ∷ spans) ≡ true → (x : Span) → IsIn x (s ∷ spans) → NotEarlier s x
head_first s spans h x i = ⊎_elim
    (λ e. inr (ap (λ y. y.row) e, ap (λ y. y.part) e, omega (arith, ap (λ y. y.first) e), omega (arith, ap (λ y. y.last) e)))
    (λ k. after_not_earlier s x (after_in s spans (rest_after s spans h) x k)) i

pub not_earlier_passage : (s x : Span) → NotEarlier s x → is_passage_before (passage_of x) (passage_of s) ≡ false
not_earlier_passage s x h = ⊎_elim
    (λ k. before_not s.row s.part x.row x.part k)
    (λ k. ap (λ n. is_passage_before (n, x.part) (passage_of s)) k.0 ∙ ap (λ n. is_passage_before (s.row, n) (passage_of s)) k.1 ∙ before_itself s.row s.part) h

-- ---- the furthest passage

pub later_is : (o : Option (ℕ × ℕ)) (q : ℕ × ℕ) → (o ≡ Some (later_passage o q)) ⊎ (later_passage o q ≡ q)
later_is None q = inr refl
later_is (Some p) q = at (is_passage_before p q)
  where
    at : (b : Bool) → (Some p ≡ Some (cond b q p)) ⊎ (cond b q p ≡ q)
    at true = inr refl
    at false = inl refl

pub some_is : {X : Type 0} {x y : X} → Some x ≡ Some y → x ≡ y
some_is e = cc

pub no_some : {X : Type 0} {x : X} → None ≡ Some x → ⊥
no_some e = cc

-- a span of each choice stands at the furthest passage or behind it
reach : (o : Option (ℕ × ℕ)) (p : ℕ × ℕ) (lists : List (List Span)) (xs : List Span) → AllOrdered lists → furthest_from o lists ≡ Some p → IsChoice xs lists →
    (o ≡ Some p) ⊎ ((y : Span) × IsIn y xs × (is_passage_before (passage_of y) p ≡ false))
reach o p [] xs h e c = inl e
reach o p ([] ∷ lists) xs h e c = absurd (no_some e)
reach o p ((s ∷ spans) ∷ lists) [] h e c = absurd c
reach o p ((s ∷ spans) ∷ lists) (x ∷ xs) h e c = ⊎_elim
    (λ q. ⊎_elim
    (λ k. inl (k ∙ q))
    (λ k. inr (x, inl refl, ap (is_passage_before (passage_of x)) (sym (some_is q) ∙ k) ∙ not_earlier_passage s x (head_first s spans h.0 x c.0))) (later_is o (passage_of s)))
    (λ r. inr (r.0, inr r.1, r.2)) (reach (Some (later_passage o (passage_of s))) p lists xs h.1 e c.1)

none_from : (p : ℕ × ℕ) (lists : List (List Span)) (xs : List Span) → furthest_from (Some p) lists ≡ None → IsChoice xs lists → ⊥
none_from p [] xs e c = no_some (sym e)
none_from p ([] ∷ lists) [] e c = c
none_from p ([] ∷ lists) (x ∷ xs) e c = c.0
none_from p ((s ∷ spans) ∷ lists) [] e c = c
none_from p ((s ∷ spans) ∷ lists) (x ∷ xs) e c = none_from (later_passage (Some p) (passage_of s)) lists xs e c.1

-- where a list is empty, there is no cover
pub none_left : (width : ℕ) (ordered : Bool) (lists : List (List Span)) → furthest_from None lists ≡ None → (s : Span) → IsIn s (covers width ordered lists) → ⊥
none_left width ordered [] e s h = h
none_left width ordered ([] ∷ lists) e s h = h
none_left width ordered ((a ∷ spans) ∷ lists) e s h = let c = of_cover width ordered ((a ∷ spans) ∷ lists) s h in at c.chosen c.choice
  where
    at : (xs : List Span) → IsChoice xs ((a ∷ spans) ∷ lists) → ⊥
    at [] c = c
    at (x ∷ xs) c = none_from (passage_of a) lists xs e c.1

-- a seek of all lists to the furthest passage passes over no cover
pub gather_keeps : (width : ℕ) (ordered : Bool) (p : ℕ × ℕ) (lists : List (List Span)) → AllOrdered lists → furthest_from None lists ≡ Some p → Keeps width ordered (map (spans_from p) lists) lists
gather_keeps width ordered p lists h e =
    keeps_by width ordered (map (spans_from p) lists) lists (some_filter (λ a. not (is_passage_before (passage_of a) p)) lists)
    (λ s c. choice_filter (λ a. not (is_passage_before (passage_of a) p)) c.chosen lists c.choice (λ x i. at s c x i (reach None p lists c.chosen h e c.choice)))
  where
    at : (s : Span) (c : IsCover width ordered lists s) (x : Span) → IsIn x c.chosen → (None ≡ Some p) ⊎ ((y : Span) × IsIn y c.chosen × (is_passage_before (passage_of y) p ≡ false)) →
        not (is_passage_before (passage_of x) p) ≡ true
    at s c x i (inl q) = absurd (no_some q)
    at s c x i (inr r) =
        let f = c.at x i in let g = c.at r.0 r.1 in
        not_true (is_passage_before (passage_of x) p) (ap (λ n. is_passage_before (n, x.part) p) (f.0 ∙ sym g.0) ∙ ap (λ n. is_passage_before (r.0.row, n) p) (f.1 ∙ sym g.1) ∙ r.2)
