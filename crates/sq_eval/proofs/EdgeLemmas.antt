-- A literal stands at most as often in a corpus as its first token is asked for.
use Rattle.std.proofs.Common.{◌≡◌, ◌≢◌, ℕ, ◌+◌, ◌-◌, ◌<◌, ◌≤◌, Bool, true, false, ◌&&◌, cond, List, [], ◌∷◌, length, map, filter, drop, sum_by, refl, sym, ap, ap₂, ◌∙◌, arith, suc}
use Rattle.std.specs.List.{range_with_len, flat_map}
use Rattle.std.specs.Prelude.{eqb, nat_lt}
use Rattle.std.proofs.lemmas.Bool.Decides.{nat_tests}
use Rattle.std.proofs.lemmas.List.Sums.{sum_by-cons, sum_by-append}
use Rattle.sq_cursor.specs.declared.span.Span.{Span}
use Rattle.sq_model.specs.Cost.{is_wanted, passage_count, posting_count, pattern_count, phrase_count}
use Rattle.sq_model.specs.Lists.{is_empty}
use Rattle.sq_model.specs.Looked.{looked, looked_rows}
use Rattle.sq_model.specs.Passages.{Passage, passages, searchable}
use Rattle.sq_model.specs.Places.{places}
use Rattle.sq_model.specs.Valid.{IsValid}
use Rattle.sq_model.specs.declared.corpus.Corpus.{Corpus}
use Rattle.sq_model.specs.declared.corpus.Item.{Item}
use Rattle.sq_model.specs.declared.corpus.Value.{Value}
use Rattle.sq_model.specs.declared.fql.Look.{Look}
use Rattle.sq_model.specs.declared.fql.Look.TheVariants.{Searchable, One}
use Rattle.sq_near.specs.Rows.{spans_in}
use Rattle.sq_postings.specs.Indexed.{Indexed}
use Rattle.sq_postings.specs.Occurrences.{values_at}
use Rattle.sq_postings.specs.StandsFor.{StandsFor}
use Rattle.sq_schema.specs.declared.property.Property.{Property}
use Rattle.sq_streams.specs.Pattern.{ArePlaces}
use Rattle.sq_tokens.specs.Pattern.{Phrase, is_token_asked, begins_with, fits_at}
use Rattle.sq_tokens.specs.Token.{token_text}

-- ---- sums

sum_at_most : {X : Type 0} (f g : X → ℕ) (xs : List X) → ((x : X) → f x ≤ g x) → sum_by f xs ≤ sum_by g xs
sum_at_most f g [] below = omega arith
sum_at_most f g (x ∷ xs) below =
    let here = below x in
    let more = sum_at_most f g xs below in
    let one = sum_by-cons f x xs in
    let other = sum_by-cons g x xs in
    omega arith

sum_of_none : {X : Type 0} (xs : List X) → sum_by (λ x. 0) xs ≡ 0
sum_of_none [] = refl
sum_of_none (x ∷ xs) = let e = sum_by-cons (λ y. 0) x xs in let more = sum_of_none xs in omega arith

sum_of_sums : {X : Type 0} (f g : X → ℕ) (xs : List X) → sum_by (λ x. f x + g x) xs ≡ sum_by f xs + sum_by g xs
sum_of_sums f g [] = refl
sum_of_sums f g (x ∷ xs) =
    let all = sum_by-cons (λ y. f y + g y) x xs in
    let one = sum_by-cons f x xs in
    let other = sum_by-cons g x xs in
    let more = sum_of_sums f g xs in
    omega arith

same_sums : {X : Type 0} (f g : X → ℕ) (xs : List X) → ((x : X) → f x ≡ g x) → sum_by f xs ≡ sum_by g xs
same_sums f g [] same = refl
same_sums f g (x ∷ xs) same = sum_by-cons f x xs ∙ ap₂ (λ a b. a + b) (same x) (same_sums f g xs same) ∙ sym (sum_by-cons g x xs)

exchanged : {X Y : Type 0} (f : X → Y → ℕ) (xs : List X) (ys : List Y) → sum_by (λ x. sum_by (f x) ys) xs ≡ sum_by (λ y. sum_by (λ x. f x y) xs) ys
exchanged f [] ys = sym (sum_of_none ys)
exchanged f (x ∷ xs) ys =
    sum_by-cons (λ z. sum_by (f z) ys) x xs ∙ ap (λ n. sum_by (f x) ys + n) (exchanged f xs ys)
    ∙ sym (sum_of_sums (f x) (λ y. sum_by (λ z. f z y) xs) ys)
    ∙ same_sums (λ y. f x y + sum_by (λ z. f z y) xs) (λ y. sum_by (λ z. f z y) (x ∷ xs)) ys (λ y. sym (sum_by-cons (λ z. f z y) x xs))

sum_of_flat : {X Y : Type 0} (f : Y → ℕ) (h : X → List Y) (xs : List X) → sum_by f (flat_map h xs) ≡ sum_by (λ x. sum_by f (h x)) xs
sum_of_flat f h [] = refl
sum_of_flat f h (x ∷ xs) = sum_by-append f (h x) (flat_map h xs) ∙ ap (λ n. sum_by f (h x) + n) (sum_of_flat f h xs) ∙ sym (sum_by-cons (λ y. sum_by f (h y)) x xs)

-- ---- in a passage

first_asked : (prefixed : Bool) (text : List ℕ) (more : List (List ℕ)) (token : List ℕ) (tokens : List (List ℕ)) →
    begins_with prefixed (text ∷ more) (token ∷ tokens) ≡ true → is_token_asked (prefixed && is_empty more) text token ≡ true
first_asked true text [] token tokens begins = begins
first_asked false text [] token tokens begins = begins
first_asked true text (next ∷ more) token tokens begins = grind arith
first_asked false text (next ∷ more) token tokens begins = grind arith

fewer_kept : {X Y : Type 0} (b c : Bool) (x : X) (y : Y) (xs : List X) (ys : List Y) → (b ≡ true → c ≡ true) → length xs ≤ length ys → length (cond b (x ∷ xs) xs) ≤ length (cond c (y ∷ ys) ys)
fewer_kept true true x y xs ys only l = omega arith
fewer_kept false true x y xs ys only l = omega arith
fewer_kept false false x y xs ys only l = l
fewer_kept true false x y xs ys only l = let e = only refl in cc

module _ (prefixed : Bool) (text : List ℕ) (more : List (List ℕ)) where
  few_from : (fits : ℕ → Bool) (a : ℕ) (passage : Passage) → ((k : ℕ) → fits (a + k) ≡ begins_with prefixed (text ∷ more) (drop k (map token_text passage))) →
      length (filter fits (range_with_len a (length passage))) ≤ passage_count (prefixed && is_empty more) text passage
  few_from fits a [] is = omega arith
  few_from fits a (token ∷ passage) is =
      let same : a + 0 ≡ a = omega arith in
      let here : fits a ≡ begins_with prefixed (text ∷ more) (token_text token ∷ map token_text passage) = sym (ap fits same) ∙ is 0 in
      fewer_kept (fits a) (is_wanted (prefixed && is_empty more) text token) a token _ _ (λ e. first_asked prefixed text more (token_text token) (map token_text passage) (sym here ∙ e))
      (few_from fits (a + 1) passage (λ k. let next : a + 1 + k ≡ a + suc k = omega arith in ap fits next ∙ is (suc k)))

few_places : (phrase : Phrase) (text : List ℕ) (more : List (List ℕ)) → phrase.texts ≡ text ∷ more → (passage : Passage) →
    length (places phrase passage) ≤ passage_count (phrase.prefixed && is_empty more) text passage
few_places phrase text more is passage =
    few_from phrase.prefixed text more (fits_at phrase passage) 0 passage (λ k. let same : 0 + k ≡ k = omega arith in ap (fits_at phrase passage) same ∙ ap (λ texts. begins_with phrase.prefixed texts (drop k (map token_text passage))) is)

-- ---- in a corpus

-- how many places the literal has in an item with these values
abbrev pub places_in : Look → Phrase → List Property → List Value → ℕ
places_in look phrase schema values = sum_by (λ passage. length (places phrase passage)) (looked look schema values)

by_property : (look : Look) (f : Passage → ℕ) (schema : List Property) (values : List Value) →
    sum_by f (looked look schema values) ≡ sum_by (λ property. sum_by f (passages values property)) (looked_rows look schema)
by_property (One property) f schema values = sym (sum_by-cons (λ p. sum_by f (passages values p)) property [] ∙ omega arith)
by_property Searchable f schema values = sum_of_flat f (passages values) (searchable schema)

first_of_pattern : (items : List Item) (property : ℕ) (phrase : Phrase) (text : List ℕ) (more : List (List ℕ)) → phrase.texts ≡ text ∷ more →
    sum_by (λ item. sum_by (λ passage. length (places phrase passage)) (passages item.values property)) items ≤ pattern_count items property phrase.prefixed phrase.texts
first_of_pattern items property phrase text more is =
    let few : sum_by (λ item. sum_by (λ passage. length (places phrase passage)) (passages item.values property)) items ≤ posting_count items property text (phrase.prefixed && is_empty more) =
    sum_at_most (λ item. sum_by (λ passage. length (places phrase passage)) (passages item.values property)) (λ item. sum_by (passage_count (phrase.prefixed && is_empty more) text) (passages item.values property)) items
    (λ item. sum_at_most (λ passage. length (places phrase passage)) (passage_count (phrase.prefixed && is_empty more) text) (passages item.values property) (few_places phrase text more is)) in
    let count = ap (pattern_count items property phrase.prefixed) is in
    omega (arith, few, count)

pub few_in_corpus : (corpus : Corpus) (look : Look) (phrase : Phrase) → 0 < length phrase.texts →
    sum_by (λ item. places_in look phrase corpus.schema item.values) corpus.items ≤ phrase_count corpus look phrase
few_in_corpus corpus look phrase some = at phrase.texts refl some
  where
    f : Passage → ℕ
    f passage = length (places phrase passage)

    whole : sum_by (λ item. places_in look phrase corpus.schema item.values) corpus.items ≡ sum_by (λ property. sum_by (λ item. sum_by (λ passage. length (places phrase passage)) (passages item.values property)) corpus.items) (looked_rows look corpus.schema)
    whole =
        same_sums (λ item. places_in look phrase corpus.schema item.values) (λ item. sum_by (λ property. sum_by (λ passage. length (places phrase passage)) (passages item.values property)) (looked_rows look corpus.schema)) corpus.items
        (λ item. by_property look (λ passage. length (places phrase passage)) corpus.schema item.values)
        ∙ exchanged (λ item property. sum_by (λ passage. length (places phrase passage)) (passages item.values property)) corpus.items (looked_rows look corpus.schema)

    at : (texts : List (List ℕ)) → phrase.texts ≡ texts → 0 < length texts → sum_by (λ item. places_in look phrase corpus.schema item.values) corpus.items ≤ phrase_count corpus look phrase
    at [] is l = absurd (omega arith)
    at (text ∷ more) is l =
        let few = sum_at_most (λ property. sum_by (λ item. sum_by (λ passage. length (places phrase passage)) (passages item.values property)) corpus.items) (λ property. pattern_count corpus.items property phrase.prefixed phrase.texts) (looked_rows look corpus.schema)
        (λ property. first_of_pattern corpus.items property phrase text more is) in
        omega (arith, few, whole)

-- ---- the spans of all rows

-- no span stands in a row before this one
abbrev pub FromRow : ℕ → List Span → Type 0
FromRow row [] = Unit {0}
FromRow row (s ∷ spans) = (row ≤ s.row) × FromRow row spans

behind : ℕ → Span → Bool
behind row s = nat_lt row s.row

-- those of the first row, and those behind it
split_row : (row : ℕ) (spans : List Span) → FromRow row spans → length spans ≡ length (spans_in row spans) + length (filter (λ s. nat_lt row s.row) spans)
split_row row [] from = refl
split_row row (s ∷ spans) from = at (eqb s.row row) (nat_lt row s.row) refl refl (split_row row spans from.1)
  where
    at : (b c : Bool) → eqb s.row row ≡ b → nat_lt row s.row ≡ c → length spans ≡ length (spans_in row spans) + length (filter (λ t. nat_lt row t.row) spans) →
        length (s ∷ spans) ≡ length (cond b (s ∷ spans_in row spans) (spans_in row spans)) + length (cond c (s ∷ filter (λ t. nat_lt row t.row) spans) (filter (λ t. nat_lt row t.row) spans))
    at true true e f more = absurd (let same : s.row ≡ row = grind (arith, nat_tests) in let l : row < s.row = grind (arith, nat_tests) in omega arith)
    at true false e f more = omega arith
    at false true e f more = omega arith
    at false false e f more = absurd (let other : s.row ≢ row = grind (arith, nat_tests) in let l : s.row ≤ row = grind (arith, nat_tests) in let h = from.0 in other (omega arith))

from_behind : (row : ℕ) (spans : List Span) → FromRow (row + 1) (filter (λ s. nat_lt row s.row) spans)
from_behind row [] = tt
from_behind row (s ∷ spans) = at (nat_lt row s.row) refl (from_behind row spans)
  where
    at : (c : Bool) → nat_lt row s.row ≡ c → FromRow (row + 1) (filter (λ t. nat_lt row t.row) spans) → FromRow (row + 1) (cond c (s ∷ filter (λ t. nat_lt row t.row) spans) (filter (λ t. nat_lt row t.row) spans))
    at true e more = let l : row < s.row = grind (arith, nat_tests) in (omega arith, more)
    at false e more = more

in_behind : (row other : ℕ) (spans : List Span) → row < other → spans_in other (filter (λ s. nat_lt row s.row) spans) ≡ spans_in other spans
in_behind row other [] l = refl
in_behind row other (s ∷ spans) l = at (nat_lt row s.row) refl (in_behind row other spans l)
  where
    at : (c : Bool) → nat_lt row s.row ≡ c → spans_in other (filter (λ t. nat_lt row t.row) spans) ≡ spans_in other spans →
        spans_in other (cond c (s ∷ filter (λ t. nat_lt row t.row) spans) (filter (λ t. nat_lt row t.row) spans)) ≡ spans_in other (s ∷ spans)
    at true e more = ap (λ rest. cond (eqb s.row other) (s ∷ rest) rest) more
    at false e more = let no : eqb s.row other ≡ false = grind (arith, nat_tests) in more ∙ sym (rw no refl)

none_of_items : (look : Look) (phrase : Phrase) (schema : List Property) (at : ℕ) (spans : List Span) → FromRow at spans →
    ((k : ℕ) → length (spans_in (at + k) spans) ≡ places_in look phrase schema []) → length spans ≤ 0
none_of_items look phrase schema at [] from counted = omega arith
none_of_items look phrase schema at (s ∷ spans) from counted =
    let below = from.0 in
    let none : places_in look phrase schema [] ≡ 0 = by_property look (λ passage. length (places phrase passage)) schema [] ∙ sum_of_none (looked_rows look schema) in
    let is : at + (s.row - at) ≡ s.row = omega arith in
    let here : length (spans_in s.row (s ∷ spans)) ≡ 0 = sym (ap (λ r. length (spans_in r (s ∷ spans))) is) ∙ counted (s.row - at) ∙ none in
    let yes : eqb s.row s.row ≡ true = grind (arith, nat_tests) in
    let some : length (spans_in s.row (s ∷ spans)) ≡ suc (length (spans_in s.row spans)) = rw yes refl in
    absurd (omega (arith, here, some))

module _ (look : Look) (phrase : Phrase) (schema : List Property) where
  few_by_rows : (items : List Item) (at : ℕ) (spans : List Span) → FromRow at spans →
      ((k : ℕ) → length (spans_in (at + k) spans) ≡ places_in look phrase schema (values_at items k)) →
      length spans ≤ sum_by (λ item. places_in look phrase schema item.values) items
  few_by_rows [] at spans from counted = none_of_items look phrase schema at spans from counted
  few_by_rows (item ∷ items) at spans from counted =
      let same : at + 0 ≡ at = omega arith in
      let here : length (spans_in at spans) ≡ places_in look phrase schema item.values = sym (ap (λ r. length (spans_in r spans)) same) ∙ counted 0 in
      let more = few_by_rows items (at + 1) (filter (λ s. nat_lt at s.row) spans) (from_behind at spans)
      (λ k. let next : at + 1 + k ≡ at + suc k = omega arith in
      ap length (in_behind at (at + 1 + k) spans (omega arith)) ∙ ap (λ r. length (spans_in r spans)) next ∙ counted (suc k)) in
      let parts = split_row at spans from in
      let sums = sum_by-cons (λ i. places_in look phrase schema i.values) item items in
      omega (arith, here, more, parts, sums)

from_none : (spans : List Span) → FromRow 0 spans
from_none [] = tt
from_none (s ∷ spans) = (omega arith, from_none spans)

-- At most the tokens that a literal asks for are spans of it.
pub few_spans : (index : Indexed) (look : Look) (phrase : Phrase) (spans : List Span) → ArePlaces index look phrase spans → 0 < length phrase.texts →
    (corpus : Corpus) → IsValid corpus → StandsFor index corpus → length spans ≤ phrase_count corpus look phrase
few_spans index look phrase spans are some corpus valid stands =
    let few = few_by_rows look phrase corpus.schema corpus.items 0 spans (from_none spans)
    (λ k. let same : 0 + k ≡ k = omega arith in ap (λ r. length (spans_in r spans)) same ∙ are.counted corpus valid stands k) in
    let most = few_in_corpus corpus look phrase some in
    omega (arith, few, most)
