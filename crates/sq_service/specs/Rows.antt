-- The rows of the properties that are asked for.
use Rattle.std.specs.Prelude.{ℕ, ◌==◌, if◌then◌else◌, List, [], ◌∷◌, position, Some, None}
use Rattle.std.specs.List.{list_any}
use Rattle.sq_schema.specs.declared.property.Property.{Property}
use Rattle.sq_schema.specs.Properties.{has_name}

-- the row of a name, if there is one that isn't among those before
abbrev pub new_row : List Property → List ℕ → List ℕ → List ℕ
new_row schema name before = elim (position (has_name name) schema) [
  | None ↦ []
  | Some row ↦ if list_any (λ other. other == row) before then [] else row ∷ []
]
