-- How the tables of texts, runs and rows stand for items.
use Rattle.std.specs.Prelude.{ℕ, ◌<◌, ◌≤◌, List, [], map, length, slice_range, slice_index_or}
use Rattle.std.specs.List.{All, range_with_len}
use Rattle.sq_stored.specs.declared.runs.Run.{Run}
use Rattle.sq_stored.specs.declared.stored.Row.{Row}
use Rattle.sq_stored.specs.Runs.{IsRunIn, texts_under}
use Rattle.sq_stored.specs.Stored.{StoredItem}

abbrev pub item_at : List (List ℕ) → List Run → Row → StoredItem
item_at texts runs row = record {
  url = slice_index_or texts row.url [];
  values = map (texts_under texts (slice_range runs row.start row.end)) (range_with_len 0 row.properties);
}

abbrev pub items_at : List (List ℕ) → List Run → List Row → List StoredItem
items_at texts runs rows = map (item_at texts runs) rows

-- a row's runs are among so many
pub record IsRowIn (count : ℕ) (row : Row) : Type 0 where
  pub ordered : row.start ≤ row.end
  pub within : row.end ≤ count

pub record IsKept (texts : List (List ℕ)) (runs : List Run) (rows : List Row) : Type 0 where
  pub runs_in : All (IsRunIn (length texts)) runs
  pub rows_in : All (IsRowIn (length runs)) rows
  pub urls_in : All (λ row. row.url < length texts) rows
