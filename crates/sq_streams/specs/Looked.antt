-- The passages that an expression looks at, by row and part.
use Rattle.std.specs.Prelude.{ℕ, ◌/◌, ◌==◌, Bool, if◌then◌else◌, List, [], slice_get}
use Rattle.sq_base.specs.Limits.{most_values}
use Rattle.sq_schema.specs.declared.property.Property.{Property}
use Rattle.sq_model.specs.Passages.{Passage, is_searchable}
use Rattle.sq_model.specs.declared.corpus.Corpus.{Corpus}
use Rattle.sq_model.specs.declared.fql.Look.{Look}
use Rattle.sq_model.specs.declared.fql.Look.TheVariants.{Searchable, One}
use Rattle.sq_postings.specs.Occurrences.{passage_at}

abbrev pub looks_at : Look → List Property → ℕ → Bool
looks_at (One wanted) schema property = property == wanted
looks_at Searchable schema property = is_searchable (slice_get schema property)

-- the passage of a row and a part where it is looked at, and else no tokens; a part is 1,000 times the property, and the place among its values
abbrev pub passage_looked : Corpus → Look → ℕ → ℕ → Passage
passage_looked corpus look row part = if looks_at look corpus.schema (part / most_values) then passage_at corpus.items row part else []
