-- The passages that an expression looks at, row by row.
use Rattle.std.proofs.Common.{◌≡◌, ℕ, ◌+◌, List, ◌∷◌, refl, sym, ap, ◌∙◌}
use Rattle.std.specs.List.{flat_map, sum_by}
use Rattle.std.proofs.lemmas.List.{append-nil}
use Rattle.std.proofs.lemmas.List.Sums.{sum_by-append}
use Rattle.sq_schema.specs.declared.property.Property.{Property}
use Rattle.sq_model.specs.declared.corpus.Value.{Value}
use Rattle.sq_model.specs.declared.fql.Look.{Look}
use Rattle.sq_model.specs.declared.fql.Look.TheVariants.{Searchable, One}
use Rattle.sq_slow.specs.declared.text_value.TextValue.{TextValue}
use Rattle.sq_model.specs.Passages.{Passage, passages}
use Rattle.sq_model.specs.Looked.{looked, looked_rows}
use Rattle.sq_slow.specs.TextValues.{text_values, passages_in}
use Rattle.sq_slow.proofs.SeenLemmas.{passages_of_texts}

pub looked_by_rows : (look : Look) (schema : List Property) (values : List Value) → flat_map (passages values) (looked_rows look schema) ≡ looked look schema values
looked_by_rows Searchable schema values = refl
looked_by_rows (One property) schema values = append-nil (passages values property)

-- the sum over the passages of the first row and over those of the others
pub sum_in_rows : (count : Passage → ℕ) (texts : List TextValue) (values : List Value) (row : ℕ) (rows : List ℕ) → texts ≡ text_values values →
    sum_by count (flat_map (passages values) (row ∷ rows)) ≡ sum_by count (passages_in texts row) + sum_by count (flat_map (passages values) rows)
sum_in_rows count texts values row rows e =
    sum_by-append count (passages values row) (flat_map (passages values) rows)
    ∙ ap (λ here. sum_by count here + sum_by count (flat_map (passages values) rows)) (sym (passages_of_texts values row) ∙ ap (λ t. passages_in t row) (sym e))
