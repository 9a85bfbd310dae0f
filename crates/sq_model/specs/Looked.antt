-- The passages at which an FQL expression looks.
use Rattle.std.specs.Prelude.{ℕ, List, [], ◌∷◌}
use Rattle.sq_schema.specs.declared.property.Property.{Property}
use Rattle.sq_model.specs.declared.corpus.Value.{Value}
use Rattle.sq_model.specs.declared.fql.Look.{Look}
use Rattle.sq_model.specs.declared.fql.Look.TheVariants.{Searchable, One}
use Rattle.sq_model.specs.Passages.{Passage, passages, searchable, searchable_passages}

-- those of one property, or of all searchable properties in the schema's order
abbrev pub looked : Look → List Property → List Value → List Passage
looked (One property) schema values = passages values property
looked Searchable schema values = searchable_passages schema values

-- the properties of these passages
abbrev pub looked_rows : Look → List Property → List ℕ
looked_rows (One property) schema = property ∷ []
looked_rows Searchable schema = searchable schema
