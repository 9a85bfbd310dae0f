-- The keys of hits, which come in the order of their rows.
use Rattle.std.specs.Prelude.{◌≡◌, ℕ, ◌+◌, ◌*◌, ℤ, true, nat_le, List, length, slice_get, Option, Some, None}
use Rattle.std.specs.List.{list_all}
use Rattle.sq_cursor.specs.Entries.{entries_behind}
use Rattle.sq_packet.specs.declared.request.Direction.{Direction}
use Rattle.sq_postings.specs.Indexed.{Indexed, values_in}
use Rattle.sq_ranking.specs.declared.keys.SortKeys.{SortKeys}
use Rattle.sq_collect.specs.Counted.{numbers_at, numbers_in_row}
use Rattle.sq_engine.specs.Answer.{key_among}
use Rattle.sq_service.specs.declared.keys.Column.{Column}
use Rattle.sq_service.specs.declared.keys.KeySource.{KeySource}
use Rattle.sq_service.specs.declared.keys.KeySource.TheVariants as source
use Rattle.sq_service.specs.declared.keys.KeySources.{KeySources}
use Rattle.sq_service.specs.declared.sorts.Key.TheVariants as keys
use Rattle.sq_service.specs.declared.sorts.Sort.{Sort}

-- no pair stands in a row before this one
abbrev pub AreFrom : ℕ → List (ℕ × ℤ) → Type 0
AreFrom row pairs = list_all (λ pair. nat_le row pair.0) pairs ≡ true

-- ---- by what is left

abbrev pub column_key : Column → ℕ → Option ℤ
column_key column row = key_among column.direction (numbers_at row column.values)

abbrev pub source_key : KeySource → ℕ → ℤ → Option ℤ
source_key source.Nothing row score = None
source_key source.Score row score = Some score
source_key (source.Property column) row score = column_key column row

abbrev pub keys_at : KeySources → ℕ → ℤ → SortKeys
keys_at sources row score = record {
  first = source_key sources.first row score;
  second = source_key sources.second row score;
  third = source_key sources.third row score;
  fourth = source_key sources.fourth row score;
}

-- how many steps the rows that are yet to come can take
abbrev pub column_rest : Column → ℕ
column_rest column = entries_behind column.values

abbrev pub source_rest : KeySource → ℕ
source_rest source.Nothing = 0
source_rest source.Score = 0
source_rest (source.Property column) = column_rest column

abbrev pub sources_rest : KeySources → ℕ
sources_rest sources = source_rest sources.first + source_rest sources.second + source_rest sources.third + source_rest sources.fourth

-- ---- by an index

abbrev pub key_in_row : Indexed → ℕ → Direction → ℕ → Option ℤ
key_in_row index property direction row = key_among direction (numbers_in_row index property row)

abbrev pub key_by : Indexed → Option Sort → ℕ → ℤ → Option ℤ
key_by index None row score = None
key_by index (Some sort) row score = elim sort.key [ keys.Score ↦ Some score | keys.Property property ↦ key_in_row index property sort.direction row ]

abbrev pub keys_by : Indexed → List Sort → ℕ → ℤ → SortKeys
keys_by index sorts row score = record {
  first = key_by index (slice_get sorts 0) row score;
  second = key_by index (slice_get sorts 1) row score;
  third = key_by index (slice_get sorts 2) row score;
  fourth = key_by index (slice_get sorts 3) row score;
}

-- a step, and two for each number of the property
abbrev pub property_cost : Indexed → ℕ → ℕ
property_cost index property = 1 + 2 * length (values_in index property)

abbrev pub sort_cost : Indexed → Sort → ℕ
sort_cost index sort = elim sort.key [ keys.Score ↦ 0 | keys.Property property ↦ property_cost index property ]

abbrev pub sort_cost_at : Indexed → Option Sort → ℕ
sort_cost_at index None = 0
sort_cost_at index (Some sort) = sort_cost index sort

abbrev pub sources_cost : Indexed → List Sort → ℕ
sources_cost index sorts =
    sort_cost_at index (slice_get sorts 0) + sort_cost_at index (slice_get sorts 1) + sort_cost_at index (slice_get sorts 2) + sort_cost_at index (slice_get sorts 3)
