-- Reads of one run among the texts.
use Rattle.std.proofs.Common.{◌≡◌, ℕ, ◌+◌, ◌-◌, ◌<◌, ◌≤◌, List, [], ◌∷◌, length, get_or, take, drop, map, refl, sym, ap, ◌∙◌, arith, slice_get, slice_range, None, Some, zero, suc}
use Rattle.std.proofs.lemmas.List.{length-drop, length-take-le}
use Rattle.std.proofs.lemmas.Option.{slice_get_past}
use Rattle.std.proofs.lemmas.List.{get_or_past}
use Rattle.std.proofs.lemmas.List.FromFn.{get_or-map-range_with_len, length-map-range_with_len}
use Rattle.std.proofs.lemmas.List.Elements.{All-take, All-drop}
use Rattle.std.proofs.lemmas.Option.{same_Some}
use Rattle.std.specs.List.{All, range_with_len}
use Rattle.sq_stored.specs.declared.stored.Row.{Row}
use Rattle.sq_stored.specs.Stored.{values_of}
use Rattle.sq_stored.specs.Kept.{item_at, items_at}
use Rattle.sq_stored.specs.Runs.{run_under, run_texts, texts_under}
use Rattle.sq_stored.proofs.RunLemmas.{run_under_within}
use Rattle.sq_stored.specs.declared.runs.Run.{Run}
use Rattle.sq_stored.specs.Runs.{IsRunIn}

get_take : {X : Type 0} (n : ℕ) (xs : List X) (i : ℕ) → i < n → slice_get (take n xs) i ≡ slice_get xs i
get_take zero xs i l = absurd (omega arith)
get_take (suc n) [] i l = refl
get_take (suc n) (x ∷ xs) zero l = refl
get_take (suc n) (x ∷ xs) (suc i) l = get_take n xs i (omega arith)

get_drop : {X : Type 0} (n : ℕ) (xs : List X) (i : ℕ) → slice_get (drop n xs) i ≡ slice_get xs (n + i)
get_drop zero xs i = let e : i ≡ 0 + i = omega arith in ap (slice_get xs) e
get_drop (suc n) [] i = sym (slice_get_past [] (suc n + i) (omega arith))
get_drop (suc n) (x ∷ xs) i = let e : suc (n + i) ≡ suc n + i = omega arith in get_drop n xs i ∙ ap (slice_get (x ∷ xs)) e

pub get_range : {X : Type 0} (xs : List X) (start end i : ℕ) → i < end - start → slice_get (slice_range xs start end) i ≡ slice_get xs (start + i)
get_range xs start end i l = get_take (end - start) (drop start xs) i l ∙ get_drop start xs i

pub length_range : {X : Type 0} (xs : List X) (run : Run) → IsRunIn (length xs) run → length (slice_range xs run.start run.end) ≡ run.end - run.start
length_range xs run is = length-take-le (run.end - run.start) (drop run.start xs) (omega (arith, length-drop run.start xs, is.ordered, is.within))

-- the values of a property of a row, and none past its properties
module _ (texts : List (List ℕ)) (runs : List Run) (row : Row) where
  pub own_texts : (property : ℕ) → property < row.properties → run_texts texts (run_under (slice_range runs row.start row.end) property) ≡ get_or (item_at texts runs row).values property []
  own_texts property l =
      let e : 0 + property ≡ property = omega arith in
      sym (get_or-map-range_with_len (texts_under texts (slice_range runs row.start row.end)) 0 row.properties property property [] l e)

  pub no_texts : (property : ℕ) → row.properties ≤ property → run_texts texts (run_under [] property) ≡ get_or (item_at texts runs row).values property []
  no_texts property l =
      let few : length (map (texts_under texts (slice_range runs row.start row.end)) (range_with_len 0 row.properties)) ≤ property =
      omega (arith, length-map-range_with_len (texts_under texts (slice_range runs row.start row.end)) 0 row.properties) in
      sym (get_or_past (map (texts_under texts (slice_range runs row.start row.end)) (range_with_len 0 row.properties)) property [] few)

pub own_within : (count : ℕ) (runs : List Run) (start end property : ℕ) → All (IsRunIn count) runs → IsRunIn count (run_under (slice_range runs start end) property)
own_within count runs start end property all =
    run_under_within count (slice_range runs start end) property (All-take (IsRunIn count) _ _ (All-drop (IsRunIn count) start runs all))

pub row_values : (texts : List (List ℕ)) (runs : List Run) (rows : List Row) (row : ℕ) (at : Row) → slice_get rows row ≡ Some at
    → get_or (map values_of (items_at texts runs rows)) row [] ≡ (item_at texts runs at).values
row_values texts runs [] row at e = absurd (cc)
row_values texts runs (x ∷ rows) zero at e = ap (λ r. (item_at texts runs r).values) (same_Some x at e)
row_values texts runs (x ∷ rows) (suc row) at e = row_values texts runs rows row at e

pub no_values : (texts : List (List ℕ)) (runs : List Run) (rows : List Row) (row : ℕ) → slice_get rows row ≡ None
    → get_or (map values_of (items_at texts runs rows)) row [] ≡ []
no_values texts runs [] row e = refl
no_values texts runs (x ∷ rows) zero e = absurd (cc)
no_values texts runs (x ∷ rows) (suc row) e = no_values texts runs rows row e
