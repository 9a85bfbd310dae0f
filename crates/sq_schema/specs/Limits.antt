-- The limits of a schema.
use Rattle.std.specs.Prelude.{ℕ}

-- the rows of a schema
abbrev pub most_rows : ℕ
most_rows = 64

-- the bytes of a property's name
abbrev pub most_property_name_bytes : ℕ
most_property_name_bytes = 64
