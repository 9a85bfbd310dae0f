-- The limits of texts of both languages.
use Rattle.std.specs.Prelude.{ℕ}

-- the bytes of a query text
abbrev pub most_text_bytes : ℕ
most_text_bytes = 20_480

-- the levels of parentheses and scopes that may be open at once
abbrev pub most_levels : ℕ
most_levels = 64

-- the distance of KQL's NEAR and ONEAR where no list is given
abbrev pub kql_distance : ℕ
kql_distance = 8
