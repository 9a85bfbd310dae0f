-- Checksums of names. Names that differ in ASCII case alone have the same one.
use Rattle.std.specs.Prelude.{◌≡◌, ℕ, ◌+◌, ◌*◌, ◌%◌, ◌^◌, List, map}
use Rattle.std.specs.Char.{to_ascii_lowercase}
use Rattle.std.specs.List.{fold}
use Rattle.sq_schema.specs.declared.property.Property.{Property}

unfoldable pub checksum_step : ℕ → ℕ → ℕ
checksum_step sum byte = (sum * 31 + to_ascii_lowercase byte) % 2 ^ 32

unfoldable pub checksum : List ℕ → ℕ
checksum name = fold checksum_step 0 name

abbrev pub checksum_of_row : Property → ℕ
checksum_of_row row = checksum row.name

-- the checksums of the rows, in their order
abbrev pub AreChecksums : List ℕ → List Property → Type 0
AreChecksums sums rows = sums ≡ map checksum_of_row rows
