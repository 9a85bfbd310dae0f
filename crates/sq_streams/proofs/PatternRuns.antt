-- A near in order of single tokens, as wide as they are many: they stand in a row.
use Rattle.std.proofs.Common.{◌≡◌, ℕ, zero, suc, ◌+◌, ◌-◌, ◌<◌, ◌≤◌, min, max, true, ◌&&◌, List, [], ◌∷◌, length, Some, None, refl, sym, ap, ◌∙◌, subst, arith}
use Rattle.std.specs.Prelude.{nat_lt}
use Rattle.std.specs.List.{fold, reduce}
use Rattle.std.proofs.lemmas.Bool.Decides.{nat_tests}
use Rattle.sq_model.specs.Triples.{join, rises, is_near, near}
use Rattle.sq_model.specs.declared.triple.Triple.{Triple}
use Rattle.sq_model.proofs.Members.{IsIn}
use Rattle.sq_model.proofs.Choices.{IsChoice, to_near, of_near}
use Rattle.sq_near.specs.Laws.{IsLeastPair}
use Rattle.sq_streams.proofs.SpanLemmas.{and_left, and_right}

-- the match of one token
abbrev pub single_at : ℕ → Triple
single_at i = record { first = i; last = i; weight = 0 }

-- each match is one of a single token
abbrev pub AreSingles : List (List Triple) → Type 0
AreSingles [] = Unit {0}
AreSingles (l ∷ ls) = ((t : Triple) → IsIn t l → t ≡ single_at t.first) × AreSingles ls

-- from i on each list has the next token
abbrev pub Runs : List (List Triple) → ℕ → Type 0
Runs [] i = Unit {0}
Runs (l ∷ ls) i = IsIn (single_at i) l × Runs ls (i + 1)

rises_last : (s t : Triple) (cs : List Triple) → s.last ≡ t.last → rises (s ∷ cs) ≡ rises (t ∷ cs)
rises_last s t [] e = refl
rises_last s t (c ∷ cs) e = ap (λ n. nat_lt n c.first && rises (c ∷ cs)) e

abbrev triple_of : ℕ → ℕ → ℕ → Triple
triple_of first last weight = record { first = first; last = last; weight = weight }

triple_with : (a b c d e f : ℕ) → a ≡ d → b ≡ e → c ≡ f → triple_of a b c ≡ triple_of d e f
triple_with a b c d e f p q r = λ i. record { first = p i; last = q i; weight = r i }

some_is : {X : Type 0} {x y : X} → Some x ≡ Some y → x ≡ y
some_is e = cc

no_some : {X : Type 0} {x : X} → None ≡ Some x → ⊥
no_some e = cc

-- ---- a choice in order

record IsRow (a : Triple) (ls : List (List Triple)) (r : Triple) : Type 0 where
  first : r.first ≡ a.first
  weight : r.weight ≡ 0
  long : a.last + length ls ≤ r.last
  runs : r.last ≤ a.last + length ls → Runs ls (a.last + 1)

fold_row : (a : Triple) (cs : List Triple) (ls : List (List Triple)) → IsChoice cs ls → AreSingles ls → a.first ≤ a.last → a.weight ≡ 0 → rises (a ∷ cs) ≡ true → IsRow a ls (fold join a cs)
fold_row a [] [] h s l w r = record { first = refl; weight = w; long = omega arith; runs = λ m. tt }
fold_row a [] (x ∷ ls) h s l w r = absurd h
fold_row a (c ∷ cs) [] h s l w r = absurd h
fold_row a (c ∷ cs) (x ∷ ls) h s l w r =
    let one : c ≡ single_at c.first = s.0 c h.0 in
    let last : c.last ≡ c.first = ap (λ (t : Triple). t.last) one in
    let weight : c.weight ≡ 0 = ap (λ (t : Triple). t.weight) one in
    let test : nat_lt a.last c.first ≡ true = and_left (nat_lt a.last c.first) (rises (c ∷ cs)) r in
    let below : a.last < c.first = grind (arith, nat_tests, test) in
    let both : Triple = join a c in
    let first_is : both.first ≡ a.first = omega (arith, below, l) in
    let last_is : both.last ≡ c.last = omega (arith, below, last) in
    let more = fold_row both cs ls h.1 s.1 (omega (arith, first_is, last_is, below, l, last)) (omega (arith, w, weight))
    (rises_last both c cs last_is ∙ and_right (nat_lt a.last c.first) (rises (c ∷ cs)) r) in
    record {
      first = more.first ∙ first_is;
      weight = more.weight;
      long = omega (arith, more.long, last_is, last, below);
      runs = λ m.
          let next : c.first ≡ a.last + 1 = omega (arith, m, more.long, last_is, last, below) in
          let then : both.last ≡ a.last + 1 = omega (arith, last_is, last, next) in
          (subst (λ t. IsIn t x) (one ∙ ap single_at next) h.0, subst (λ n. Runs ls (n + 1)) then (more.runs (omega (arith, m, then))));
    }

-- the match of a near has as many tokens as there are lists, and each list has its token
pub of_run : (ls : List (List Triple)) → AreSingles ls → (t : Triple) → IsIn t (near (length ls) true ls) → (t.last + 1 ≡ t.first + length ls) × Runs ls t.first
of_run ls s t h = let n = of_near (length ls) true ls t h in at ls s n.chosen n.is_choice n.is_ordered n.joins n.is_close
  where
    at : (ls : List (List Triple)) → AreSingles ls → (chosen : List Triple) → IsChoice chosen ls → rises chosen ≡ true → reduce join chosen ≡ Some t → is_near (length ls) t ≡ true →
        (t.last + 1 ≡ t.first + length ls) × Runs ls t.first
    at [] s [] c o j k = absurd (no_some j)
    at [] s (u ∷ chosen) c o j k = absurd c
    at (l ∷ ls) s [] c o j k = absurd c
    at (l ∷ ls) s (u ∷ chosen) c o j k =
        let one : u ≡ single_at u.first = s.0 u c.0 in
        let last : u.last ≡ u.first = ap (λ (x : Triple). x.last) one in
        let weight : u.weight ≡ 0 = ap (λ (x : Triple). x.weight) one in
        let row = fold_row u chosen ls c.1 s.1 (omega (arith, last)) weight o in
        let same : fold join u chosen ≡ t = some_is j in
        let first_is : t.first ≡ u.first = ap (λ (x : Triple). x.first) (sym same) ∙ row.first in
        let weight_is : t.weight ≡ 0 = ap (λ (x : Triple). x.weight) (sym same) ∙ row.weight in
        let last_is : (fold join u chosen).last ≡ t.last = ap (λ (x : Triple). x.last) same in
        let close : t.last - t.first + 1 ≤ length (l ∷ ls) + t.weight = grind (arith, nat_tests, k) in
        let short : t.last + 1 ≤ t.first + length (l ∷ ls) = omega (arith, close, weight_is) in
        let runs = row.runs (omega (arith, last_is, short, first_is, last)) in
        let next : u.last + 1 ≡ t.first + 1 = omega (arith, first_is, last) in (
          omega (arith, short, row.long, last_is, first_is, last),
          (
            subst (λ n. IsIn (single_at n) l) (sym first_is) (subst (λ x. IsIn x l) one c.0),
            subst (Runs ls) next runs,
          ),
        )

-- ---- and back

abbrev row_from : ℕ → ℕ → List Triple
row_from i zero = []
row_from i (suc n) = single_at i ∷ row_from (i + 1) n

row_choice : (i : ℕ) (ls : List (List Triple)) → Runs ls i → IsChoice (row_from i (length ls)) ls
row_choice i [] h = tt
row_choice i (l ∷ ls) h = (h.0, row_choice (i + 1) ls h.1)

row_rises : (i n : ℕ) → rises (row_from i n) ≡ true
row_rises i zero = refl
row_rises i (suc zero) = refl
row_rises i (suc (suc n)) = let test : nat_lt i (i + 1) ≡ true = grind (arith, nat_tests) in rw test (row_rises (i + 1) (suc n))

row_fold : (f i n : ℕ) → f ≤ i → fold join (triple_of f i 0) (row_from (i + 1) n) ≡ triple_of f (i + n) 0
row_fold f i zero l = triple_with f i 0 f (i + 0) 0 refl (omega arith) refl
row_fold f i (suc n) l =
    let step : join (triple_of f i 0) (single_at (i + 1)) ≡ triple_of f (i + 1) 0 =
    triple_with (min f (i + 1)) (max i (i + 1)) (0 + 0) f (i + 1) 0 (omega (arith, l)) (omega arith) refl in
    ap (λ t. fold join t (row_from (i + 1 + 1) n)) step ∙ row_fold f (i + 1) n (omega (arith, l)) ∙ triple_with f (i + 1 + n) 0 f (i + suc n) 0 refl (omega arith) refl

pub to_run : (l : List Triple) (ls : List (List Triple)) (i : ℕ) → Runs (l ∷ ls) i →
    IsIn (record { first = i; last = i + length ls; weight = 0 }) (near (length (l ∷ ls)) true (l ∷ ls))
to_run l ls i h =
    let t : Triple = record { first = i; last = i + length ls; weight = 0 } in
    let short : i + length ls - i + 1 ≤ length (l ∷ ls) + 0 = omega arith in
    to_near (length (l ∷ ls)) true (l ∷ ls) t (record {
      chosen = row_from i (length (l ∷ ls));
      is_choice = row_choice i (l ∷ ls) h;
      is_ordered = row_rises i (length (l ∷ ls));
      joins = ap Some (row_fold i i (length ls) (omega arith));
      is_close = grind (arith, nat_tests, short);
    })

-- ---- least pairs

pub of_least : (ls : List (List Triple)) → AreSingles ls → (first last : ℕ) → IsLeastPair (near (length ls) true ls) first last → (last + 1 ≡ first + length ls) × Runs ls first
of_least ls s first last h =
    let r = of_run ls s h.here.0 h.here.1 in
    let f = h.here.2 in
    let g = h.here.3 in
    (omega (arith, r.0, f, g), subst (Runs ls) f r.1)

pub to_least : (l : List Triple) (ls : List (List Triple)) → AreSingles (l ∷ ls) → (first last : ℕ) → last + 1 ≡ first + length (l ∷ ls) → Runs (l ∷ ls) first → IsLeastPair (near (length (l ∷ ls)) true (l ∷ ls)) first last
to_least l ls s first last e h = record {
  here = (record { first = first; last = first + length ls; weight = 0 }, to_run l ls first h, refl, omega (arith, e));
  least = λ t i a b. let r = of_run (l ∷ ls) s t i in (omega (arith, r.0, e, a, b), omega (arith, r.0, e, a, b));
}
