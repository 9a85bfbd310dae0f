-- The numbers of an item, as an index has them.
use Rattle.std.proofs.Common.{◌≡◌, ◌≢◌, ℕ, ◌+◌, ◌<◌, Bool, true, false, ◌&&◌, ◌||◌, cond, List, [], ◌∷◌, length, map, filter, refl, sym, ap, ap₂, ◌∙◌, arith, zero, suc}
use Rattle.std.specs.List.{list_any}
use Rattle.std.specs.Prelude.{ℤ, int_le, int_lt, eqb}
use Rattle.std.proofs.lemmas.Bool.Decides.{nat_tests}
use Rattle.std.proofs.lemmas.List.{length-append, length-map}
use Rattle.std.proofs.lemmas.List.Folds.{list_any-append}
use Rattle.std.proofs.lemmas.List.Sums.{sum_by-cons}
use Rattle.sq_base.specs.Sorting.{put, in_order}
use Rattle.sq_model.specs.Cost.{number_count}
use Rattle.sq_model.specs.Passages.{numbers, some_within}
use Rattle.sq_model.specs.declared.corpus.Item.{Item}
use Rattle.sq_nodes.specs.Leaves.{numbers_in}
use Rattle.sq_postings.specs.Occurrences.{numbered, numbers_from, values_at}

-- a pair of the row has a number that passes
abbrev pub found : ℕ → (ℤ → Bool) → List (ℕ × ℤ) → Bool
found row test pairs = list_any (λ pair. eqb pair.0 row && test pair.1) pairs

found_in : (row : ℕ) (test : ℤ → Bool) (pairs : List (ℕ × ℤ)) → list_any test (numbers_in row pairs) ≡ found row test pairs
found_in row test [] = refl
found_in row test (pair ∷ pairs) = at (eqb pair.0 row) (found_in row test pairs)
  where
    at : (b : Bool) → list_any test (numbers_in row pairs) ≡ found row test pairs →
        list_any test (map (λ p. p.1) (cond b (pair ∷ filter (λ p. eqb p.0 row) pairs) (filter (λ p. eqb p.0 row) pairs))) ≡ (b && test pair.1) || found row test pairs
    at true more = ap (λ b. test pair.1 || b) more
    at false more = more

found_here : (row : ℕ) (test : ℤ → Bool) (ns : List ℤ) → found row test (map (numbered row) ns) ≡ list_any test ns
found_here row test [] = refl
found_here row test (n ∷ ns) = let here : eqb row row ≡ true = grind (arith, nat_tests) in rw here (ap (λ b. test n || b) (found_here row test ns))

found_elsewhere : (row at : ℕ) (test : ℤ → Bool) (ns : List ℤ) → at ≢ row → found row test (map (numbered at) ns) ≡ false
found_elsewhere row at test [] other = refl
found_elsewhere row at test (n ∷ ns) other = let no : eqb at row ≡ false = grind (arith, nat_tests) in rw no (found_elsewhere row at test ns other)

found_later : (row at property : ℕ) (test : ℤ → Bool) (items : List Item) → row < at → found row test (numbers_from at property items) ≡ false
found_later row at property test [] l = refl
found_later row at property test (item ∷ items) l =
    let other : at ≢ row = λ e. omega arith in
    list_any-append _ (map (numbered at) (in_order int_lt (numbers item.values property))) (numbers_from (at + 1) property items)
    ∙ ap₂ (λ a b. a || b) (found_elsewhere row at test (in_order int_lt (numbers item.values property)) other) (found_later row (at + 1) property test items (omega arith))

or_swap : (a b c : Bool) → a || (b || c) ≡ b || (a || c)
or_swap true true c = refl
or_swap true false c = refl
or_swap false b c = refl

any_put : (before : ℤ → ℤ → Bool) (test : ℤ → Bool) (n : ℤ) (ns : List ℤ) → list_any test (put before n ns) ≡ test n || list_any test ns
any_put before test n [] = refl
any_put before test n (m ∷ ns) = at (before m n) (any_put before test n ns)
  where
    at : (b : Bool) → list_any test (put before n ns) ≡ test n || list_any test ns → list_any test (cond b (m ∷ put before n ns) (n ∷ m ∷ ns)) ≡ test n || (test m || list_any test ns)
    at true more = ap (λ b. test m || b) more ∙ or_swap (test m) (test n) (list_any test ns)
    at false more = refl

any_in_order : (before : ℤ → ℤ → Bool) (test : ℤ → Bool) (ns : List ℤ) → list_any test (in_order before ns) ≡ list_any test ns
any_in_order before test [] = refl
any_in_order before test (n ∷ ns) = any_put before test n (in_order before ns) ∙ ap (λ b. test n || b) (any_in_order before test ns)

or_none : (b : Bool) → b || false ≡ b
or_none true = refl
or_none false = refl

found_from : (items : List Item) (k row at property : ℕ) (test : ℤ → Bool) → row ≡ at + k → found row test (numbers_from at property items) ≡ list_any test (numbers (values_at items k) property)
found_from [] k row at property test e = refl
found_from (item ∷ items) zero row at property test e =
    let same : at ≡ row = omega arith in
    list_any-append _ (map (numbered at) (in_order int_lt (numbers item.values property))) (numbers_from (at + 1) property items)
    ∙ ap₂ (λ a b. a || b)
    (ap (λ r. found row test (map (numbered r) (in_order int_lt (numbers item.values property)))) same ∙ found_here row test (in_order int_lt (numbers item.values property)) ∙ any_in_order int_lt test (numbers item.values property))
    (found_later row (at + 1) property test items (omega arith))
    ∙ or_none (list_any test (numbers item.values property))
found_from (item ∷ items) (suc k) row at property test e =
    let other : at ≢ row = λ same. omega arith in
    list_any-append _ (map (numbered at) (in_order int_lt (numbers item.values property))) (numbers_from (at + 1) property items)
    ∙ ap₂ (λ a b. a || b) (found_elsewhere row at test (in_order int_lt (numbers item.values property)) other) (found_from items k row (at + 1) property test (omega arith))

-- The numbers of a row are those of its item, in another order.
pub within_row : (items : List Item) (row property : ℕ) (first last : ℤ) →
    some_within first last (numbers_in row (numbers_from 0 property items)) ≡ some_within first last (numbers (values_at items row) property)
within_row items row property first last =
    found_in row (λ n. int_le first n && int_le n last) (numbers_from 0 property items) ∙ found_from items row row 0 property (λ n. int_le first n && int_le n last) (omega arith)

-- ---- how many there are

length_put : (before : ℤ → ℤ → Bool) (n : ℤ) (ns : List ℤ) → length (put before n ns) ≡ suc (length ns)
length_put before n [] = refl
length_put before n (m ∷ ns) = at (before m n) (length_put before n ns)
  where
    at : (b : Bool) → length (put before n ns) ≡ suc (length ns) → length (cond b (m ∷ put before n ns) (n ∷ m ∷ ns)) ≡ suc (suc (length ns))
    at true more = ap suc more
    at false more = refl

length_in_order : (before : ℤ → ℤ → Bool) (ns : List ℤ) → length (in_order before ns) ≡ length ns
length_in_order before [] = refl
length_in_order before (n ∷ ns) = length_put before n (in_order before ns) ∙ ap suc (length_in_order before ns)

pub length_numbers : (at property : ℕ) (items : List Item) → length (numbers_from at property items) ≡ number_count items property
length_numbers at property [] = refl
length_numbers at property (item ∷ items) =
    length-append (map (numbered at) (in_order int_lt (numbers item.values property))) (numbers_from (at + 1) property items)
    ∙ ap₂ (λ a b. a + b) (length-map (in_order int_lt (numbers item.values property)) (numbered at) ∙ length_in_order int_lt (numbers item.values property)) (length_numbers (at + 1) property items)
    ∙ sym (sum_by-cons (λ i. length (numbers i.values property)) item items)
