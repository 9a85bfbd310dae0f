-- The sorts of a request.
use Rattle.std.specs.Prelude.{ℕ, Bool, true, nat_lt, List, length, map, Result, Ok, Err}
use Rattle.sq_schema.specs.declared.property.Property.{Property}
use Rattle.sq_packet.specs.declared.request.Direction.{Direction}
use Rattle.sq_engine.specs.Answer.{SortKey, Score, Of}
use Rattle.sq_service.specs.declared.sorts.Key.{Key}
use Rattle.sq_service.specs.declared.sorts.Key.TheVariants as keys
use Rattle.sq_service.specs.declared.sorts.Sort.{Sort}

abbrev pub key : Key → SortKey
key keys.Score = Score
key (keys.Property row) = Of row

abbrev pub sort_of : Sort → SortKey × Direction
sort_of sort = (key sort.key, sort.direction)

-- what each sort goes by, or the number of the first that goes by nothing
abbrev pub goes_by : Result (List Sort) ℕ → Result (List (SortKey × Direction)) ℕ
goes_by (Ok sorts) = Ok (map sort_of sorts)
goes_by (Err i) = Err i

-- the score is there, and a property of the schema
abbrev pub is_key_within : List Property → Key → Bool
is_key_within schema keys.Score = true
is_key_within schema (keys.Property row) = nat_lt row (length schema)

abbrev pub is_within : List Property → Sort → Bool
is_within schema sort = is_key_within schema sort.key
