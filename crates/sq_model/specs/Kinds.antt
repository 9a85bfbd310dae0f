-- Which properties, values and parameters a typed expression may have.
use Rattle.std.specs.Prelude.{ℕ, Bool, false, ◌&&◌, not, List, slice_get, Option, Some, None, option_map, ℤ, pos, neg_ℤ, int_le}
use Rattle.sq_base.specs.Limits.{greatest_boost}
use Rattle.sq_schema.specs.declared.property.Kind.{Kind}
use Rattle.sq_schema.specs.declared.property.Property.{Property}
use Rattle.sq_schema.specs.Properties.{is_text}
use Rattle.sq_schema.specs.Bounds.{is_from_to}
pub use Rattle.sq_schema.specs.Bounds.{is_integer_value, is_moment_value}

abbrev pub kind_of : List Property → ℕ → Option Kind
kind_of schema property = option_map (λ row. row.kind) (slice_get schema property)

abbrev pub is_text_kind : Option Kind → Bool
is_text_kind None = false
is_text_kind (Some kind) = is_text kind

abbrev pub is_number_kind : Option Kind → Bool
is_number_kind None = false
is_number_kind (Some kind) = not (is_text kind)

-- a text property of the schema
abbrev pub is_text_property : List Property → ℕ → Bool
is_text_property schema property = is_text_kind (kind_of schema property)

-- a property of the schema of another kind
abbrev pub is_number_property : List Property → ℕ → Bool
is_number_property schema property = is_number_kind (kind_of schema property)

abbrev pub is_same : ℤ → ℤ → Bool
is_same m n = int_le m n && int_le n m

-- what xrank may add
abbrev pub is_boost : ℤ → Bool
is_boost cb = is_from_to (neg_ℤ (pos greatest_boost)) (pos greatest_boost) cb
