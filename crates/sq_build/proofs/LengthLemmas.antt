-- The table of lengths tells the length of each passage, and rises.
use Rattle.std.proofs.Common.{◌≡◌, ℕ, ◌+◌, ◌<◌, ◌==◌, nat_lt, Bool, true, false, cond, ◌&&◌, ◌||◌, List, [], ◌∷◌, ◌++◌, length, get_or, refl, ap, ap₂, ◌∙◌, arith, zero, suc}
use Rattle.std.proofs.lemmas.Bool.Decides.{nat_tests}
use Rattle.sq_model.specs.declared.corpus.Item.{Item}
use Rattle.sq_model.specs.Passages.{Passage, passages}
use Rattle.sq_postings.specs.declared.parts.Length.{Length}
use Rattle.sq_postings.specs.Indexed.{length_in}
use Rattle.sq_postings.specs.Rising.{rises, length_before}
use Rattle.sq_postings.specs.Occurrences.{values_at}
use Rattle.sq_build.specs.Lengths.{passage_lengths, lengths_from}
use Rattle.sq_build.proofs.TestLemmas.{both_true, from_lt}

hit_same : (row ordinal other : ℕ) → ordinal ≡ other → ((row == row) && (ordinal == other)) ≡ true
hit_same row ordinal other e = grind (arith, nat_tests)

miss_ordinal : (row ordinal other : ℕ) → ordinal < other → ((row == row) && (ordinal == other)) ≡ false
miss_ordinal row ordinal other e = grind (arith, nat_tests)

miss_above : (row other ordinal wanted : ℕ) → other < row → ((row == other) && (ordinal == wanted)) ≡ false
miss_above row other ordinal wanted l = grind (arith, nat_tests)

miss_below : (row other ordinal wanted : ℕ) → row < other → ((row == other) && (ordinal == wanted)) ≡ false
miss_below row other ordinal wanted l = grind (arith, nat_tests)

-- the lengths of other rows are passed over
passed_above : (row ordinal wanted_row wanted : ℕ) (ps : List Passage) (rest : List Length) → wanted_row < row
    → length_in (passage_lengths row ordinal ps ++ rest) wanted_row wanted ≡ length_in rest wanted_row wanted
passed_above row ordinal wanted_row wanted [] rest l = refl
passed_above row ordinal wanted_row wanted (p ∷ ps) rest l =
    ap (λ b. cond b (length p) (length_in (passage_lengths row (ordinal + 1) ps ++ rest) wanted_row wanted)) (miss_above row wanted_row ordinal wanted l)
    ∙ passed_above row (ordinal + 1) wanted_row wanted ps rest l

passed_below : (row ordinal wanted_row wanted : ℕ) (ps : List Passage) (rest : List Length) → row < wanted_row
    → length_in (passage_lengths row ordinal ps ++ rest) wanted_row wanted ≡ length_in rest wanted_row wanted
passed_below row ordinal wanted_row wanted [] rest l = refl
passed_below row ordinal wanted_row wanted (p ∷ ps) rest l =
    ap (λ b. cond b (length p) (length_in (passage_lengths row (ordinal + 1) ps ++ rest) wanted_row wanted)) (miss_below row wanted_row ordinal wanted l)
    ∙ passed_below row (ordinal + 1) wanted_row wanted ps rest l

-- a row's own
own_length : (row ordinal more : ℕ) (ps : List Passage) (rest : List Length) → ((wanted : ℕ) → length_in rest row wanted ≡ 0)
    → length_in (passage_lengths row ordinal ps ++ rest) row (ordinal + more) ≡ length (get_or ps more [])
own_length row ordinal more [] rest none = none (ordinal + more)
own_length row ordinal zero (p ∷ ps) rest none =
    let e : ordinal ≡ ordinal + 0 = omega arith in
    ap (λ b. cond b (length p) (length_in (passage_lengths row (ordinal + 1) ps ++ rest) row (ordinal + 0))) (hit_same row ordinal (ordinal + 0) e)
own_length row ordinal (suc more) (p ∷ ps) rest none =
    let l : ordinal < ordinal + suc more = omega arith in
    let e : ordinal + suc more ≡ (ordinal + 1) + more = omega arith in
    ap (λ b. cond b (length p) (length_in (passage_lengths row (ordinal + 1) ps ++ rest) row (ordinal + suc more))) (miss_ordinal row ordinal (ordinal + suc more) l)
    ∙ ap (length_in (passage_lengths row (ordinal + 1) ps ++ rest) row) e
    ∙ own_length row (ordinal + 1) more ps rest none

none_before : (row property wanted_row wanted : ℕ) (items : List Item) → wanted_row < row → length_in (lengths_from row property items) wanted_row wanted ≡ 0
none_before row property wanted_row wanted [] l = refl
none_before row property wanted_row wanted (item ∷ items) l =
    passed_above row 0 wanted_row wanted (passages item.values property) (lengths_from (row + 1) property items) l
    ∙ none_before (row + 1) property wanted_row wanted items (omega arith)

from_start : (row property more wanted : ℕ) (items : List Item)
    → length_in (lengths_from row property items) (row + more) wanted ≡ length (get_or (passages (values_at items more) property) wanted [])
from_start row property more wanted [] = refl
from_start row property zero wanted (item ∷ items) =
    let same : row + 0 ≡ row = omega arith in
    let from : wanted ≡ 0 + wanted = omega arith in
    ap₂ (length_in (passage_lengths row 0 (passages item.values property) ++ lengths_from (row + 1) property items)) same from
    ∙ own_length row 0 wanted (passages item.values property) (lengths_from (row + 1) property items) (λ w. none_before (row + 1) property row w items (omega arith))
from_start row property (suc more) wanted (item ∷ items) =
    let l : row < row + suc more = omega arith in
    let e : row + suc more ≡ (row + 1) + more = omega arith in
    passed_below row 0 (row + suc more) wanted (passages item.values property) (lengths_from (row + 1) property items) l
    ∙ ap (λ r. length_in (lengths_from (row + 1) property items) r wanted) e
    ∙ from_start (row + 1) property more wanted items

-- the length of a passage, by the table of its property
pub table_tells : (property row wanted : ℕ) (items : List Item)
    → length_in (lengths_from 0 property items) row wanted ≡ length (get_or (passages (values_at items row) property) wanted [])
table_tells property row wanted items =
    let e : row ≡ 0 + row = omega arith in
    ap (λ r. length_in (lengths_from 0 property items) r wanted) e ∙ from_start 0 property row wanted items

-- ---- it rises

-- the first entry, if there is one, is of a later row
abbrev is_later : ℕ → List Length → Bool
is_later row [] = true
is_later row (entry ∷ entries) = nat_lt row entry.row

later_entry : (row ordinal tokens : ℕ) (entry : Length) → nat_lt row entry.row ≡ true → length_before (record { row = row; ordinal = ordinal; tokens = tokens }) entry ≡ true
later_entry row ordinal tokens entry l = ap (λ b. b || ((row == entry.row) && nat_lt ordinal entry.ordinal)) l

next_entry : (row ordinal tokens more : ℕ) → length_before (record { row = row; ordinal = ordinal; tokens = tokens }) (record { row = row; ordinal = ordinal + 1; tokens = more }) ≡ true
next_entry row ordinal tokens more = grind (arith, nat_tests)

own_rise : (row ordinal : ℕ) (ps : List Passage) (rest : List Length) → is_later row rest ≡ true → rises length_before rest ≡ true
    → rises length_before (passage_lengths row ordinal ps ++ rest) ≡ true
own_rise row ordinal [] rest later up = up
own_rise row ordinal (p ∷ []) [] later up = refl
own_rise row ordinal (p ∷ []) (entry ∷ rest) later up =
    both_true (length_before (record { row = row; ordinal = ordinal; tokens = length p }) entry) _ (later_entry row ordinal (length p) entry later) up
own_rise row ordinal (p ∷ (q ∷ ps)) rest later up =
    both_true (length_before (record { row = row; ordinal = ordinal; tokens = length p }) (record { row = row; ordinal = ordinal + 1; tokens = length q })) _
    (next_entry row ordinal (length p) (length q)) (own_rise row (ordinal + 1) (q ∷ ps) rest later up)

later_from : (row next property : ℕ) (items : List Item) → row < next → is_later row (lengths_from next property items) ≡ true
later_from row next property [] l = refl
later_from row next property (item ∷ items) l = at (passages item.values property) (later_from row (next + 1) property items (omega arith))
  where
    at : (ps : List Passage) → is_later row (lengths_from (next + 1) property items) ≡ true → is_later row (passage_lengths next 0 ps ++ lengths_from (next + 1) property items) ≡ true
    at [] more = more
    at (p ∷ ps) more = from_lt row next l

pub lengths_rise : (row property : ℕ) (items : List Item) → rises length_before (lengths_from row property items) ≡ true
lengths_rise row property [] = refl
lengths_rise row property (item ∷ items) =
    own_rise row 0 (passages item.values property) (lengths_from (row + 1) property items) (later_from row (row + 1) property items (omega arith)) (lengths_rise (row + 1) property items)
