-- The evaluator's texts and rows are those of the definitions.
use Rattle.std.proofs.Common.{◌≡◌, ℕ, ◌+◌, ◌<◌, suc, zero, Bool, true, false, cond, List, [], ◌∷◌, drop, length, map, refl, sym, ap, ◌∙◌, arith, Some, None}
use Rattle.std.specs.Prelude.{◌==◌, ◌||◌, if◌then◌else◌, slice_get}
use Rattle.std.specs.List.{filter_map, flat_map, list_any}
use Rattle.std.proofs.lemmas.List.Folds.{list_any-append}
use Rattle.sq_schema.specs.declared.property.Property.{Property}
use Rattle.sq_model.specs.declared.corpus.Value.{Value}
use Rattle.sq_model.specs.declared.corpus.Content.{Content}
use Rattle.sq_model.specs.declared.corpus.Content.TheVariants.{Words, Number, Moment, Flag}
use Rattle.sq_slow.specs.declared.text_value.TextValue.{TextValue}
use Rattle.sq_model.specs.Passages.{Passage, passages, passage_of, searchable_from, is_searchable}
use Rattle.sq_slow.specs.TextValues.{text_values, passages_in}

-- a text before others, by whether it is one of the property's
text_first : (b : Bool) (text : TextValue) (texts : List TextValue) (value : Value) (values : List Value) →
    passage_of value.content ≡ Some text.tokens → map (λ t. t.tokens) texts ≡ filter_map passage_of (map (λ v. v.content) values) →
    map (λ t. t.tokens) (cond b (text ∷ texts) texts) ≡ filter_map passage_of (map (λ v. v.content) (cond b (value ∷ values) values))
text_first true text texts value values h e = rw h (ap (λ r. text.tokens ∷ r) e)
text_first false text texts value values h e = e

-- another value before others
other_first : (b : Bool) (texts : List TextValue) (value : Value) (values : List Value) →
    passage_of value.content ≡ None → map (λ t. t.tokens) texts ≡ filter_map passage_of (map (λ v. v.content) values) →
    map (λ t. t.tokens) texts ≡ filter_map passage_of (map (λ v. v.content) (cond b (value ∷ values) values))
other_first true texts value values h e = rw h e
other_first false texts value values h e = e

module _ (p property : ℕ) (values : List Value) (e : passages_in (text_values values) property ≡ passages values property) where
  first_value : (content : Content) →
      passages_in (text_values (record { property = p; content = content } ∷ values)) property ≡ passages (record { property = p; content = content } ∷ values) property
  first_value (Words text) = text_first (p == property) _ _ (record { property = p; content = Words text }) _ refl e
  first_value (Number n) = other_first (p == property) _ (record { property = p; content = Number n }) _ refl e
  first_value (Moment n) = other_first (p == property) _ (record { property = p; content = Moment n }) _ refl e
  first_value (Flag b) = other_first (p == property) _ (record { property = p; content = Flag b }) _ refl e

pub passages_of_texts : (values : List Value) (property : ℕ) → passages_in (text_values values) property ≡ passages values property
passages_of_texts [] property = refl
passages_of_texts (value ∷ values) property = first_value value.property property values (passages_of_texts values property) value.content

-- some passage of the first row or of the others
pub any_in_rows : (test : Passage → Bool) (texts : List TextValue) (values : List Value) (row : ℕ) (rows : List ℕ) → texts ≡ text_values values →
    list_any test (flat_map (passages values) (row ∷ rows)) ≡ (list_any test (passages_in texts row) || list_any test (flat_map (passages values) rows))
any_in_rows test texts values row rows e =
    list_any-append test (passages values row) (flat_map (passages values) rows)
    ∙ ap (λ here. list_any test here || list_any test (flat_map (passages values) rows)) (sym (passages_of_texts values row) ∙ ap (λ t. passages_in t row) (sym e))

abbrev pub rows_from : ℕ → List Property → ℕ → List ℕ
rows_from at schema i = if is_searchable (slice_get schema i) then at ∷ searchable_from (at + 1) (drop (i + 1) schema) else searchable_from (at + 1) (drop (i + 1) schema)

-- one row of a schema
pub searchable_step : (at : ℕ) (schema : List Property) (i : ℕ) → i < length schema → searchable_from at (drop i schema) ≡ rows_from at schema i
searchable_step at [] i h = absurd (omega arith)
searchable_step at (row ∷ rows) zero h = refl
searchable_step at (row ∷ rows) (suc i) h =
    let e : suc i + 1 ≡ suc (i + 1) = omega arith in
    searchable_step at rows i (omega arith)
    ∙ ap (λ j. if is_searchable (slice_get rows i) then at ∷ searchable_from (at + 1) (drop j (row ∷ rows)) else searchable_from (at + 1) (drop j (row ∷ rows))) (sym e)

pub searchable_yes : (at : ℕ) (schema : List Property) (i : ℕ) → i < length schema → is_searchable (slice_get schema i) ≡ true →
    searchable_from at (drop i schema) ≡ at ∷ searchable_from (at + 1) (drop (i + 1) schema)
searchable_yes at schema i h e = rw (searchable_step at schema i h) (rw e refl)

pub searchable_no : (at : ℕ) (schema : List Property) (i : ℕ) → i < length schema → is_searchable (slice_get schema i) ≡ false →
    searchable_from at (drop i schema) ≡ searchable_from (at + 1) (drop (i + 1) schema)
searchable_no at schema i h e = rw (searchable_step at schema i h) (rw e refl)
