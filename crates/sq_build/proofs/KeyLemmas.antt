-- Things made of a map with texts as keys: sorted by their texts they rise strictly, since no text has two.
use Rattle.std.proofs.Common.{◌≡◌, ℕ, ◌+◌, ◌≤◌, ◌&&◌, Bool, true, false, cond, true≢false, List, [], ◌∷◌, map, sum_by, refl, sym, ap, ap₂, ◌∙◌, arith, lit≤, Some, None, String, string_bytes, Ordering, Less, Equal, Greater, is_lt, is_eq, nat_cmp}
use native.Mathlib.Numerals.{unary_clauses}
use Rattle.std.specs.Global.{Global}
use Rattle.std.specs.Str.{bytes_eq}
use Rattle.std.specs.String.{string_eq}
use Rattle.std.specs.Map.{keys_of, lookup}
use Rattle.std.specs.Cmp.Lexicographic.{slice_cmp}
use Rattle.std.specs.Ordering.{ordering_reverse}
use Rattle.std.specs.List.{AllByRecursion, IsDistinct}
use Rattle.std.specs.List.Sorted.{IsSortedBy}
use Rattle.std.proofs.lemmas.Cmp.{nat_list_cmp_total}
use Rattle.std.proofs.lemmas.List.Sums.{sum_by-cons}
use Rattle.std.proofs.lemmas.Map.Text.{is_eq-slice_cmp}
use Rattle.std.proofs.lemmas.Slice.Eq.{bytes_eq-Decides}
use Rattle.sq_postings.specs.Rising.{rises, text_before}

-- ---- how many have a text

abbrev pub has : {X : Type 0} → (X → List ℕ) → List ℕ → X → ℕ
has key text x = cond (bytes_eq (key x) text) 1 0

abbrev pub times : {X : Type 0} → (X → List ℕ) → List ℕ → List X → ℕ
times key text xs = sum_by (has key text) xs

-- made of an entry of the map
module _ {V X : Type 0} (make : String Global × V → X) (key : X → List ℕ) (named : (e : String Global × V) → key (make e) ≡ string_bytes e.0) where
  has_at : (text : List ℕ) (e : String Global × V) (b : Bool) → bytes_eq (string_bytes e.0) text ≡ b → has key text (make e) ≡ cond b 1 0
  has_at text e b p = ap (λ s. cond (bytes_eq s text) 1 0) (named e) ∙ ap (λ c. cond c 1 0) p

  no_more : (text : List ℕ) (name : String Global) (es : List (String Global × V)) → AllByRecursion (λ y. string_eq name y ≡ false) (keys_of es)
      → string_bytes name ≡ text → times key text (map make es) ≡ 0
  no_more text name [] apart same = refl
  no_more text name (e ∷ es) apart same =
      sum_by-cons (has key text) (make e) (map make es)
      ∙ ap₂ (λ h n. h + n) (has_at text e false (other (bytes_eq (string_bytes e.0) text) refl)) (no_more text name es apart.1 same)
    where
      other : (b : Bool) → bytes_eq (string_bytes e.0) text ≡ b → bytes_eq (string_bytes e.0) text ≡ false
      other true p = absurd (true≢false (sym ((bytes_eq-Decides (string_bytes name) (string_bytes e.0)).1 (same ∙ sym ((bytes_eq-Decides (string_bytes e.0) text).0 p))) ∙ apart.0))
      other false p = p

  pub once : (text : List ℕ) (es : List (String Global × V)) → IsDistinct string_eq (keys_of es) → times key text (map make es) ≤ 1
  unfolding IsDistinct
  once text [] distinct = omega arith
  once text (e ∷ es) distinct = at (bytes_eq (string_bytes e.0) text) refl (once text es distinct.1)
    where
      at : (b : Bool) → bytes_eq (string_bytes e.0) text ≡ b → times key text (map make es) ≤ 1 → times key text (map make (e ∷ es)) ≤ 1
      at true p rest =
          let none = no_more text e.0 es distinct.0 ((bytes_eq-Decides (string_bytes e.0) text).0 p) in
          omega (arith, sum_by-cons (has key text) (make e) (map make es), none, has_at text e true p)
      at false p rest = omega (arith, sum_by-cons (has key text) (make e) (map make es), rest, has_at text e false p)

  -- a text that none has isn't in the map
  pub none_there : (text : List ℕ) (es : List (String Global × V)) → times key text (map make es) ≡ 0 → lookup (λ k. bytes_eq text (string_bytes k)) es ≡ None
  none_there text [] none = refl
  none_there text (e ∷ es) none =
      at (bytes_eq text (string_bytes e.0)) refl (none_there text es (omega (arith, none, sum_by-cons (has key text) (make e) (map make es))))
    where
      at : (b : Bool) → bytes_eq text (string_bytes e.0) ≡ b → lookup (λ k. bytes_eq text (string_bytes k)) es ≡ None
          → cond b (Some e.1) (lookup (λ k. bytes_eq text (string_bytes k)) es) ≡ None
      at true p rest =
          let here = has_at text e true ((bytes_eq-Decides (string_bytes e.0) text).1 (sym ((bytes_eq-Decides text (string_bytes e.0)).0 p))) in
          absurd (omega (arith, none, sum_by-cons (has key text) (make e) (map make es), here))
      at false p rest = rest

-- ---- of two texts one comes before

turned : (o p : Ordering) → o ≡ ordering_reverse p → is_lt p ≡ false → is_eq o ≡ false → is_lt o ≡ true
turned Less p e low apart = refl
turned Equal p e low apart = absurd (cc)
turned Greater Less e low apart = absurd (cc)
turned Greater Equal e low apart = absurd (cc)
turned Greater Greater e low apart = absurd (cc)

text_rises : (a b : List ℕ) → text_before b a ≡ false → (a ≡ b → ⊥) → text_before a b ≡ true
text_rises a b low apart =
    turned (slice_cmp nat_cmp a b) (slice_cmp nat_cmp b a) (nat_list_cmp_total.antisymm a b) low (is_eq-slice_cmp a b ∙ differ (bytes_eq a b) refl)
  where
    differ : (c : Bool) → bytes_eq a b ≡ c → bytes_eq a b ≡ false
    differ true p = absurd (apart ((bytes_eq-Decides a b).0 p))
    differ false p = p

-- ---- sorted they rise

pub keys_rise : {X : Type 0} (key : X → List ℕ) (xs : List X) → ((text : List ℕ) → times key text xs ≤ 1) → IsSortedBy (λ a b. text_before (key a) (key b)) xs
    → rises (λ a b. text_before (key a) (key b)) xs ≡ true
keys_rise key [] few up = refl
keys_rise key (y ∷ []) few up = refl
keys_rise key (y ∷ (z ∷ zs)) few up =
    ap₂ (λ a b. a && b)
    (text_rises (key y) (key z) (up 0 y (lit≤ tt) (omega arith)) apart)
    (keys_rise key (z ∷ zs) (λ text. omega (arith, few text, sum_by-cons (has key text) y (z ∷ zs)))
    (λ k d low high. simp unary_clauses (simp unary_clauses at (up (k + 1) d (omega arith) (omega (arith, high))))))
  where
    apart : key y ≡ key z → ⊥
    apart e =
        let first : has key (key y) y ≡ 1 = ap (λ b. cond b 1 0) ((bytes_eq-Decides (key y) (key y)).1 refl) in
        let second : has key (key y) z ≡ 1 = ap (λ b. cond b 1 0) ((bytes_eq-Decides (key z) (key y)).1 (sym e)) in
        omega (arith, few (key y), sum_by-cons (has key (key y)) y (z ∷ zs), sum_by-cons (has key (key y)) z zs, first, second)
