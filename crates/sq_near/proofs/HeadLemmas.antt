-- That the cover of the first spans leads, where all lists stand at one passage, and one behind the other where ordered.
use Rattle.std.proofs.Common.{◌≡◌, ◌⊎◌, inl, inr, ℕ, zero, suc, ◌+◌, ◌-◌, ◌^◌, ◌<◌, ◌≤◌, Bool, true, false, not, ◌&&◌, ◌||◌, cond, List, [], ◌∷◌, map, length, Option, Some, None, refl, sym, ◌∙◌, ap, subst, arith, true≢false}
use mathlib.Core.Logic.{⊎_elim}
use Rattle.std.specs.Prelude.{eqb, nat_lt, nat_le}
use Rattle.std.specs.List.{fold}
use Rattle.std.proofs.lemmas.Bool.{eq-eqb, eqb-true}
use Rattle.std.proofs.lemmas.Bool.Decides.{nat_tests}
use Rattle.std.proofs.lemmas.List.{length-map}
use Rattle.sq_model.specs.Triples.{keeps_order, rises}
use Rattle.sq_cursor.specs.declared.span.Span.{Span}
use Rattle.sq_cursor.specs.Spans.{passage_of, is_passage_before, are_ordered, spans_from}
use Rattle.sq_near.specs.Covers.{match_of}
use Rattle.sq_near.specs.Streams.{is_beyond, spans_beyond, ordered_filter}
use Rattle.sq_near.specs.Moves.{later_passage, furthest_from, is_here, hull, hull_from, behind, strung, settled, AreSome, Keeps, IsInOne, IsLeading, passage_number}
use Rattle.sq_model.proofs.Members.{IsIn, to_filter, of_filter}
use Rattle.sq_model.proofs.Choices.{IsChoice}
use Rattle.sq_near.proofs.CoverLemmas.{IsHull, fold_hull, IsCover, of_cover, to_cover, short_cover}
use Rattle.sq_near.specs.Laws.{AllOrdered}
use Rattle.sq_near.proofs.JoinLemmas.{some_same, some_chain, in_some, in_filter, keeps_by, keeps_chain, before_not, before_itself, not_before_chain, neither_before, is_false, some_is, no_some, ordered_filters, NotEarlier, head_first, later_is, and_cases, or_cases, gather_keeps}

-- no span lies before p
abbrev pub AllFrom : ℕ × ℕ → List (List Span) → Type 0
AllFrom p lists = (x : Span) → IsInOne x lists → is_passage_before (passage_of x) p ≡ false

pub from_seek : (p : ℕ × ℕ) (lists : List (List Span)) → AllFrom p (map (spans_from p) lists)
from_seek p lists x h = is_false _ (in_filter (λ a. not (is_passage_before (passage_of a) p)) lists x h)

-- ---- one behind the other

beyond_of : (p : ℕ × ℕ) (place : ℕ) (y : Span) → is_passage_before (passage_of y) p ≡ false → (y.row ≡ p.0 → y.part ≡ p.1 → place < y.first) → is_beyond p place y ≡ true
beyond_of p place y e h = at (is_passage_before p (passage_of y)) refl
  where
    at : (b : Bool) → is_passage_before p (passage_of y) ≡ b → b || (eqb y.row p.0 && (eqb y.part p.1 && nat_lt place y.first)) ≡ true
    at true f = refl
    at false f =
        let s = neither_before y.row y.part p.0 p.1 e f in
        let l : place < y.first = h s.0 s.1 in
        let t : nat_lt place y.first ≡ true = grind (arith, nat_tests) in
        rw (eq-eqb y.row p.0 s.0, eq-eqb y.part p.1 s.1, t) refl

-- a span that begins behind a span of the first list lies behind the first one there
behind_has : (p : ℕ × ℕ) (l m : List Span) (x y : Span) → are_ordered l ≡ true → ((s : Span) → IsIn s l → is_passage_before (passage_of s) p ≡ false) → IsIn x l → IsIn y m →
    x.row ≡ y.row → x.part ≡ y.part → x.last < y.first → IsIn y (behind p l m)
behind_has p [] m x y h f i j row part less = j
behind_has p (s ∷ spans) m x y h f i j row part less =
    to_filter (is_beyond p s.last) y m j (at (head_first s spans h x i))
  where
    from : is_passage_before (passage_of y) p ≡ false
    from = ap (λ n. is_passage_before (n, y.part) p) (sym row) ∙ ap (λ n. is_passage_before (x.row, n) p) (sym part) ∙ f x i

    at : NotEarlier s x → is_beyond p s.last y ≡ true
    at (inl k) = beyond_of p s.last y from (λ a b.
        let same : is_passage_before (passage_of s) p ≡ true =
        sym (ap (λ n. is_passage_before (passage_of s) (p.0, n)) (part ∙ b)) ∙ sym (ap (λ n. is_passage_before (passage_of s) (n, x.part)) (row ∙ a)) ∙ k in
        absurd (true≢false (sym same ∙ f s (inl refl))))
    at (inr k) = beyond_of p s.last y from (λ a b. omega (arith, k.3, less))

behind_some : (p : ℕ × ℕ) (l m : List Span) (s : Span) → IsIn s (behind p l m) → IsIn s m
behind_some p [] m s h = h
behind_some p (a ∷ l) m s h = (of_filter (is_beyond p a.last) s m h).0

behind_ordered : (p : ℕ × ℕ) (l m : List Span) → are_ordered m ≡ true → are_ordered (behind p l m) ≡ true
behind_ordered p [] m h = h
behind_ordered p (a ∷ l) m h = ordered_filter (is_beyond p a.last) m h

strung_some : (p : ℕ × ℕ) (n : ℕ) (lists : List (List Span)) → AreSome (strung p n lists) lists
strung_some p zero lists = some_same lists
strung_some p (suc n) [] = tt
strung_some p (suc n) (l ∷ []) = some_same (l ∷ [])
strung_some p (suc n) (l ∷ m ∷ lists) =
    ((λ s h. h), some_chain (strung p n (behind p l m ∷ lists)) (behind p l m ∷ lists) (m ∷ lists) (strung_some p n (behind p l m ∷ lists)) (behind_some p l m, some_same lists))

strung_choice : (p : ℕ × ℕ) (n : ℕ) (lists : List (List Span)) (xs : List Span) → AllOrdered lists → AllFrom p lists →
    ((x y : Span) → IsIn x xs → IsIn y xs → (x.row ≡ y.row) × (x.part ≡ y.part)) → rises (map (match_of 0) xs) ≡ true → IsChoice xs lists → IsChoice xs (strung p n lists)
strung_choice p zero lists xs o f at g c = c
strung_choice p (suc n) [] xs o f at g c = c
strung_choice p (suc n) (l ∷ []) xs o f at g c = c
strung_choice p (suc n) (l ∷ m ∷ lists) [] o f at g c = absurd c
strung_choice p (suc n) (l ∷ m ∷ lists) (x ∷ []) o f at g c = absurd c.1
strung_choice p (suc n) (l ∷ m ∷ lists) (x ∷ y ∷ xs) o f at g c =
    let same = at x y (inl refl) (inr (inl refl)) in
    let r = and_cases (nat_lt x.last y.first) (rises (map (match_of 0) (y ∷ xs))) g in
    let less : x.last < y.first = grind (arith, nat_tests) in
    let has = behind_has p l m x y o.0 (λ s i. f s (inl i)) c.0 c.1.0 same.0 same.1 less in (
      c.0,
      strung_choice p n (behind p l m ∷ lists) (y ∷ xs) (behind_ordered p l m o.1.0, o.1.1)
          (λ z i. f z (inr (⊎_elim (λ j. inl (behind_some p l m z j)) (λ j. inr j) i))) (λ u v i j. at u v (inr i) (inr j)) r.1 (has, c.1.1),
    )

-- where ordered, no cover uses what begins before the end of the first span of the list before it
strung_keeps : (width : ℕ) (p : ℕ × ℕ) (n : ℕ) (lists : List (List Span)) → AllOrdered lists → AllFrom p lists → Keeps width true (strung p n lists) lists
strung_keeps width p n lists o f =
    keeps_by width true (strung p n lists) lists (strung_some p n lists)
    (λ s c. strung_choice p n lists c.chosen o f (λ x y i j. let a = c.at x i in let b = c.at y j in (a.0 ∙ sym b.0, a.1 ∙ sym b.1)) c.order c.choice)

pub settled_keeps : (width : ℕ) (ordered : Bool) (p : ℕ × ℕ) (lists : List (List Span)) → AllOrdered lists → furthest_from None lists ≡ Some p → Keeps width ordered (settled ordered p lists) lists
settled_keeps width true p lists o e =
    keeps_chain width true (settled true p lists) (map (spans_from p) lists) lists
    (strung_keeps width p (length lists - 1) (map (spans_from p) lists) (ordered_filters (λ a. not (is_passage_before (passage_of a) p)) lists o) (from_seek p lists))
    (gather_keeps width true p lists o e)
settled_keeps width false p lists o e = gather_keeps width false p lists o e

pub settled_from : (ordered : Bool) (p : ℕ × ℕ) (lists : List (List Span)) → AllFrom p (settled ordered p lists)
settled_from true p lists x h = from_seek p lists x (in_some (strung p (length lists - 1) (map (spans_from p) lists)) (map (spans_from p) lists) (strung_some p (length lists - 1) (map (spans_from p) lists)) x h)
settled_from false p lists x h = from_seek p lists x h

-- ---- all stand at one passage

abbrev pub HeadsAt : ℕ × ℕ → List (List Span) → Type 0
HeadsAt p [] = Unit {0}
HeadsAt p ([] ∷ lists) = ⊥
HeadsAt p ((s ∷ spans) ∷ lists) = ((s.row ≡ p.0) × (s.part ≡ p.1)) × HeadsAt p lists

abbrev pub heads : List (List Span) → List Span
heads [] = []
heads ([] ∷ lists) = heads lists
heads ((s ∷ spans) ∷ lists) = s ∷ heads lists

later_not : (a q : ℕ × ℕ) → is_passage_before (later_passage (Some a) q) a ≡ false
later_not a q = at (is_passage_before a q) refl
  where
    at : (b : Bool) → is_passage_before a q ≡ b → is_passage_before (cond b q a) a ≡ false
    at true e = before_not a.0 a.1 q.0 q.1 e
    at false e = before_itself a.0 a.1

later_low : (o : Option (ℕ × ℕ)) (q : ℕ × ℕ) → is_passage_before (later_passage o q) q ≡ false
later_low None q = before_itself q.0 q.1
later_low (Some a) q = at (is_passage_before a q) refl
  where
    at : (b : Bool) → is_passage_before a q ≡ b → is_passage_before (cond b q a) q ≡ false
    at true e = before_itself q.0 q.1
    at false e = e

furthest_above : (a p : ℕ × ℕ) (lists : List (List Span)) → furthest_from (Some a) lists ≡ Some p → is_passage_before p a ≡ false
furthest_above a p [] e = ap (λ q. is_passage_before q a) (sym (some_is e)) ∙ before_itself a.0 a.1
furthest_above a p ([] ∷ lists) e = absurd (no_some e)
furthest_above a p ((s ∷ spans) ∷ lists) e =
    let l = later_passage (Some a) (passage_of s) in
    not_before_chain p.0 p.1 l.0 l.1 a.0 a.1 (furthest_above l p lists e) (later_not a (passage_of s))

pub heads_here : (o : Option (ℕ × ℕ)) (p : ℕ × ℕ) (lists : List (List Span)) → AllFrom p lists → furthest_from o lists ≡ Some p → HeadsAt p lists
heads_here o p [] f e = tt
heads_here o p ([] ∷ lists) f e = absurd (no_some e)
heads_here o p ((s ∷ spans) ∷ lists) f e =
    let l = later_passage o (passage_of s) in
    let above = not_before_chain p.0 p.1 l.0 l.1 s.row s.part (furthest_above l p lists e) (later_low o (passage_of s)) in
    (neither_before s.row s.part p.0 p.1 (f s (inl (inl refl))) above, heads_here (Some l) p lists (λ x i. f x (inr i)) e)

furthest_is : (o : Option (ℕ × ℕ)) (q : ℕ × ℕ) (lists : List (List Span)) → furthest_from o lists ≡ Some q → (o ≡ Some q) ⊎ ((x : Span) × IsInOne x lists × (passage_of x ≡ q))
furthest_is o q [] e = inl e
furthest_is o q ([] ∷ lists) e = absurd (no_some e)
furthest_is o q ((s ∷ spans) ∷ lists) e = ⊎_elim
    (λ k. ⊎_elim (λ m. inl (m ∙ k)) (λ m. inr (s, inl (inl refl), sym m ∙ some_is k)) (later_is o (passage_of s)))
    (λ r. inr (r.0, inr r.1, r.2)) (furthest_is (Some (later_passage o (passage_of s))) q lists e)

-- the parts stand further on
pub moves_on : (p q : ℕ × ℕ) (lists : List (List Span)) → AllFrom p lists → furthest_from None lists ≡ Some q → is_here (Some q) p ≡ false → p.1 < 2 ^ 32 →
    passage_number p < passage_number q
moves_on p q lists f e h small = at (furthest_is None q lists e)
  where
    number : (a b c d : ℕ) → is_passage_before (a, b) (c, d) ≡ true → b < 2 ^ 32 → passage_number (a, b) < passage_number (c, d)
    number a b c d k l = ⊎_elim
        (λ m. let s : a < c = grind (arith, nat_tests) in omega (arith, s, l))
        (λ m. let r = and_cases (eqb a c) (nat_lt b d) m in let s : a ≡ c = eqb-true a c r.0 in let t : b < d = grind (arith, nat_tests) in omega (arith, s, t))
        (or_cases (nat_lt a c) (eqb a c && nat_lt b d) k)

    same : q.0 ≡ p.0 → q.1 ≡ p.1 → ⊥
    same a b = true≢false (sym (rw (eq-eqb q.0 p.0 a, eq-eqb q.1 p.1 b) refl) ∙ h)

    at : (None ≡ Some q) ⊎ ((x : Span) × IsInOne x lists × (passage_of x ≡ q)) → passage_number p < passage_number q
    at (inl k) = absurd (no_some k)
    at (inr r) =
        let low : is_passage_before q p ≡ false = ap (λ n. is_passage_before n p) (sym r.2) ∙ f r.0 r.1 in
        before (is_passage_before p q) refl low
      where
        before : (b : Bool) → is_passage_before p q ≡ b → is_passage_before q p ≡ false → passage_number p < passage_number q
        before true k l = number p.0 p.1 q.0 q.1 k small
        before false k l = let s = neither_before q.0 q.1 p.0 p.1 l k in absurd (same s.0 s.1)

-- ---- first spans

strung_first : (p : ℕ × ℕ) (n : ℕ) (m : List Span) (lists : List (List Span)) → (rest : List (List Span)) × (strung p n (m ∷ lists) ≡ m ∷ rest)
strung_first p zero m lists = (lists, refl)
strung_first p (suc n) m [] = ([], refl)
strung_first p (suc n) m (k ∷ lists) = (strung p n (behind p m k ∷ lists), refl)

one_more : (p : ℕ × ℕ) (s : Span) (m : List Span) (rest : List (List Span)) → HeadsAt p (m ∷ rest) → ((t : Span) → IsIn t m → is_beyond p s.last t ≡ true) →
    rises (map (match_of 0) (heads (m ∷ rest))) ≡ true → rises (map (match_of 0) (s ∷ heads (m ∷ rest))) ≡ true
one_more p s [] rest h b r = absurd h
one_more p s (t ∷ m) rest h b r =
    let less : nat_lt s.last t.first ≡ true = ⊎_elim
    (λ k. absurd (true≢false (sym k ∙ not_before)))
    (λ k. (and_cases (eqb t.part p.1) (nat_lt s.last t.first) (and_cases (eqb t.row p.0) (eqb t.part p.1 && nat_lt s.last t.first) k).1).1)
    (or_cases (is_passage_before p (passage_of t)) (eqb t.row p.0 && (eqb t.part p.1 && nat_lt s.last t.first)) (b t (inl refl))) in
    rw less r
  where
    not_before : is_passage_before p (passage_of t) ≡ false
    not_before = ap (λ n. is_passage_before p (n, t.part)) h.0.0 ∙ ap (λ n. is_passage_before p (p.0, n)) h.0.1 ∙ before_itself p.0 p.1

strung_rises : (p : ℕ × ℕ) (n : ℕ) (lists : List (List Span)) → length lists ≤ n + 1 → HeadsAt p (strung p n lists) → rises (map (match_of 0) (heads (strung p n lists))) ≡ true
strung_rises p zero [] l h = refl
strung_rises p zero ([] ∷ []) l h = absurd h
strung_rises p zero ((s ∷ spans) ∷ []) l h = refl
strung_rises p zero (k ∷ m ∷ lists) l h = absurd (omega arith)
strung_rises p (suc n) [] l h = refl
strung_rises p (suc n) ([] ∷ []) l h = absurd h
strung_rises p (suc n) ((s ∷ spans) ∷ []) l h = refl
strung_rises p (suc n) ([] ∷ m ∷ lists) l h = absurd h
strung_rises p (suc n) ((s ∷ spans) ∷ m ∷ lists) l h =
    let few = spans_beyond p s.last m in
    let r = strung_first p n few lists in
    let more = strung_rises p n (few ∷ lists) (omega arith) h.1 in
    subst (λ k. rises (map (match_of 0) (s ∷ heads k)) ≡ true) (sym r.1)
    (one_more p s few r.0 (subst (HeadsAt p) r.1 h.1) (λ t i. (of_filter (is_beyond p s.last) t m i).1) (subst (λ k. rises (map (match_of 0) (heads k)) ≡ true) r.1 more))

pub settled_order : (ordered : Bool) (p : ℕ × ℕ) (lists : List (List Span)) → HeadsAt p (settled ordered p lists) → keeps_order ordered (map (match_of 0) (heads (settled ordered p lists))) ≡ true
settled_order true p lists h = strung_rises p (length lists - 1) (map (spans_from p) lists) (omega (arith, length-map lists (spans_from p))) h
settled_order false p lists h = refl

heads_are : (p : ℕ × ℕ) (lists : List (List Span)) → HeadsAt p lists → (x : Span) → IsIn x (heads lists) → (x.row ≡ p.0) × (x.part ≡ p.1) × IsInOne x lists
heads_are p [] h x i = absurd i
heads_are p ([] ∷ lists) h x i = absurd h
heads_are p ((s ∷ spans) ∷ lists) h x i = ⊎_elim
    (λ e. (ap (λ y. y.row) e ∙ h.0.0, ap (λ y. y.part) e ∙ h.0.1, inl (inl e)))
    (λ k. let r = heads_are p lists h.1 x k in (r.0, r.1, inr r.2)) i

heads_choice : (p : ℕ × ℕ) (lists : List (List Span)) → HeadsAt p lists → IsChoice (heads lists) lists
heads_choice p [] h = tt
heads_choice p ([] ∷ lists) h = absurd h
heads_choice p ((s ∷ spans) ∷ lists) h = (inl refl, heads_choice p lists h.1)

hull_some : (p : ℕ × ℕ) (a c : Span) (lists : List (List Span)) → HeadsAt p lists → hull_from (Some a) lists ≡ Some c → fold hull a (heads lists) ≡ c
hull_some p a c [] h e = some_is e
hull_some p a c ([] ∷ lists) h e = absurd h
hull_some p a c ((s ∷ spans) ∷ lists) h e = hull_some p (hull a s) c lists h.1 e

fold_passage : (a : Span) (xs : List Span) → ((fold hull a xs).row ≡ a.row) × ((fold hull a xs).part ≡ a.part)
fold_passage a [] = (refl, refl)
fold_passage a (x ∷ xs) = fold_passage (hull a x) xs

heads_hull : (p : ℕ × ℕ) (c : Span) (lists : List (List Span)) → HeadsAt p lists → hull_from None lists ≡ Some c → IsHull (heads lists) c × (c.row ≡ p.0) × (c.part ≡ p.1)
heads_hull p c [] h e = absurd (no_some e)
heads_hull p c ([] ∷ lists) h e = absurd h
heads_hull p c ((s ∷ spans) ∷ lists) h e =
    let k = hull_some p s c lists h.1 e in
    let f = fold_passage s (heads lists) in
    (subst (IsHull (s ∷ heads lists)) k (fold_hull s (heads lists)), sym (ap (λ y. y.row) k) ∙ f.0 ∙ h.0.0, sym (ap (λ y. y.part) k) ∙ f.1 ∙ h.0.1)

head_below : (p : ℕ × ℕ) (lists : List (List Span)) (xs : List Span) → AllOrdered lists → HeadsAt p lists → IsChoice xs lists → (x : Span) → IsIn x xs → (h : Span) × IsIn h (heads lists) × NotEarlier h x
head_below p lists [] o h c x i = absurd i
head_below p [] (y ∷ xs) o h c x i = absurd c
head_below p ([] ∷ lists) (y ∷ xs) o h c x i = absurd h
head_below p ((s ∷ spans) ∷ lists) (y ∷ xs) o h c x i = ⊎_elim
    (λ e. (s, inl refl, subst (NotEarlier s) (sym e) (head_first s spans o.0 y c.0)))
    (λ k. let r = head_below p lists xs o.1 h.1 c.1 x k in (r.0, inr r.1, r.2)) i

span_above : (p : ℕ × ℕ) (lists : List (List Span)) (xs : List Span) → AllOrdered lists → HeadsAt p lists → IsChoice xs lists → (a : Span) → IsIn a (heads lists) → (x : Span) × IsIn x xs × NotEarlier a x
span_above p [] xs o h c a i = absurd i
span_above p ([] ∷ lists) xs o h c a i = absurd h
span_above p ((s ∷ spans) ∷ lists) [] o h c a i = absurd c
span_above p ((s ∷ spans) ∷ lists) (y ∷ xs) o h c a i = ⊎_elim
    (λ e. (y, inl refl, subst (λ b. NotEarlier b y) (sym e) (head_first s spans o.0 y c.0)))
    (λ k. let r = span_above p lists xs o.1 h.1 c.1 a k in (r.0, inr r.1, r.2)) i

-- the cover of the first spans leads
pub leading : (width : ℕ) (ordered : Bool) (p : ℕ × ℕ) (c : Span) (lists : List (List Span)) → AllOrdered lists → HeadsAt p lists → keeps_order ordered (map (match_of 0) (heads lists)) ≡ true →
    hull_from None lists ≡ Some c → nat_le c.first c.last ≡ true → IsLeading width ordered lists c
leading width ordered p c lists o h order e proper =
    let r = heads_hull p c lists h e in
    let begin = r.0.first in
    let stands = heads_are p lists h begin.0 begin.1 in
    record {
      proper = proper;
      leads = λ s i. lead r s (of_cover width ordered lists s i);
      is = λ l. to_cover width ordered lists c (record {
        chosen = heads lists;
        choice = heads_choice p lists h;
        at = λ x i. let a = heads_are p lists h x i in (a.0 ∙ sym r.1, a.1 ∙ sym r.2);
        order = order;
        hull = r.0;
        near = short_cover width c proper l;
      });
      begins = (begin.0, stands.2, stands.0 ∙ sym r.1, stands.1 ∙ sym r.2, begin.2);
    }
  where
    later : (s x a : Span) → (x.row ≡ s.row) × (x.part ≡ s.part) → (a.row ≡ p.0) × (a.part ≡ p.1) × IsInOne a lists → (c.row ≡ p.0) × (c.part ≡ p.1) →
        is_passage_before (passage_of a) (passage_of x) ≡ true → is_passage_before (passage_of c) (passage_of s) ≡ true
    later s x a f g k b =
        ap (λ n. is_passage_before (n, c.part) (passage_of s)) (k.0 ∙ sym g.0) ∙ ap (λ n. is_passage_before (a.row, n) (passage_of s)) (k.1 ∙ sym g.1)
        ∙ ap (λ n. is_passage_before (passage_of a) (n, s.part)) (sym f.0) ∙ ap (λ n. is_passage_before (passage_of a) (x.row, n)) (sym f.1) ∙ b

    lead : IsHull (heads lists) c × (c.row ≡ p.0) × (c.part ≡ p.1) → (s : Span) → IsCover width ordered lists s → NotEarlier c s
    lead r s k =
        let x = k.hull.first in
        let a = head_below p lists k.chosen o h k.choice x.0 x.1 in
        let z = r.0.last in
        let y = span_above p lists k.chosen o h k.choice z.0 z.1 in
        let at_x = k.at x.0 x.1 in
        let at_y = k.at y.0 y.1 in
        let at_a = heads_are p lists h a.0 a.1 in
        let at_z = heads_are p lists h z.0 z.1 in
        ⊎_elim
        (λ b. inl (later s x.0 a.0 at_x at_a (r.1, r.2) b))
        (λ b. ⊎_elim
        (λ d. inl (later s y.0 z.0 at_y at_z (r.1, r.2) d))
        (λ d. inr (
          sym at_x.0 ∙ b.0 ∙ at_a.0 ∙ sym r.1,
          sym at_x.1 ∙ b.1 ∙ at_a.1 ∙ sym r.2,
          low c.first a.0.first x.0.first s.first (r.0.within a.0 a.1).0 b.2 x.2,
          high c.last z.0.last y.0.last s.last z.2 d.3 (k.hull.within y.0 y.1).1,
        )) y.2) a.2
      where
        low : (u v w t : ℕ) → u ≤ v → v ≤ w → w ≡ t → u ≤ t
        low u v w t f g e = omega (arith, f, g, e)

        high : (u v w t : ℕ) → v ≡ u → v ≤ w → w ≤ t → u ≤ t
        high u v w t e f g = omega (arith, f, g, e)

-- what align finds
pub aligned : (width : ℕ) (ordered : Bool) (p : ℕ × ℕ) (c : Span) (lists : List (List Span)) → AllOrdered (settled ordered p lists) → furthest_from None (settled ordered p lists) ≡ Some p →
    hull_from None (settled ordered p lists) ≡ Some c → nat_le c.first c.last ≡ true → IsLeading width ordered (settled ordered p lists) c
aligned width ordered p c lists o e k proper =
    let h = heads_here None p (settled ordered p lists) (settled_from ordered p lists) e in
    leading width ordered p c (settled ordered p lists) o h (settled_order ordered p lists h) k proper
