-- Items stay as they are while the tables grow, and one more stands behind them.
use Rattle.std.proofs.Common.{◌≡◌, ℕ, ◌+◌, ◌<◌, ◌≤◌, List, [], ◌∷◌, ◌++◌, length, map, get_or, refl, sym, ap, ap₂, subst, ◌∙◌, arith, slice_range, append_assoc, length-append, zero, suc}
use Rattle.std.specs.List.{All, flat_map, range_with_len}
use Rattle.std.proofs.lemmas.List.{drop_at, get_or_append_left, get_or_push, map-append}
use Rattle.std.proofs.lemmas.List.Elements.{All-head, All-tail, All-weaker, All-push, All-take, All-drop}
use Rattle.sq_model.specs.declared.corpus.Item.{Item}
use Rattle.sq_stored.specs.declared.runs.Run.{Run}
use Rattle.sq_stored.specs.declared.stored.Row.{Row}
use Rattle.sq_stored.specs.Shown.{shown_values}
use Rattle.sq_stored.specs.Runs.{IsGrown, IsRunIn, run_under, texts_under, runs_from}
use Rattle.sq_stored.specs.Stored.{StoredItem, stored_item}
use Rattle.sq_stored.specs.Kept.{item_at, items_at, IsKept, IsRowIn}
use Rattle.sq_stored.proofs.GrownLemmas.{grown_append, grown_length, range_grown, at_grown, range_behind}
use Rattle.sq_stored.proofs.RunLemmas.{run_under_within, runs_give}

map_same : {X Y : Type 0} (f g : X → Y) → ((x : X) → f x ≡ g x) → (xs : List X) → map f xs ≡ map g xs
map_same f g same [] = refl
map_same f g same (x ∷ xs) = ap₂ (λ y ys. y ∷ ys) (same x) (map_same f g same xs)

map_same_range : {Y : Type 0} (f g : ℕ → Y) (a n : ℕ) → ((q : ℕ) → a ≤ q → q < a + n → f q ≡ g q) → map f (range_with_len a n) ≡ map g (range_with_len a n)
map_same_range f g a zero same = refl
map_same_range f g a (suc n) same =
    ap₂ (λ y ys. y ∷ ys) (same a (omega arith) (omega arith)) (map_same_range f g (a + 1) n (λ q low high. same q (omega arith) (omega arith)))

abbrev item_of : List ℕ → List (List (List ℕ)) → StoredItem
item_of url values = record { url = url; values = values }

module _ (texts more : List (List ℕ)) (runs longer : List Run) (grown : IsGrown texts more) (lengthened : IsGrown runs longer) (within : All (IsRunIn (length texts)) runs) where
  texts_same : (start end property : ℕ) → start ≤ end → end ≤ length runs
      → texts_under more (slice_range longer start end) property ≡ texts_under texts (slice_range runs start end) property
  texts_same start end property ordered inside =
      ap (λ l. texts_under more l property) (range_grown runs longer start end lengthened ordered inside)
      ∙ range_grown texts more run.start run.end grown is.ordered is.within
    where
      run : Run
      run = run_under (slice_range runs start end) property

      is : IsRunIn (length texts) (run_under (slice_range runs start end) property)
      is = run_under_within (length texts) (slice_range runs start end) property (All-take (IsRunIn (length texts)) _ _ (All-drop (IsRunIn (length texts)) start runs within))

  item_same : (row : Row) → IsRowIn (length runs) row → row.url < length texts → item_at more longer row ≡ item_at texts runs row
  item_same row is url =
      ap₂ item_of (at_grown texts more row.url [] grown url)
      (map_same (texts_under more (slice_range longer row.start row.end)) (texts_under texts (slice_range runs row.start row.end))
      (λ property. texts_same row.start row.end property is.ordered is.within) (range_with_len 0 row.properties))

  pub items_same : (rows : List Row) → All (IsRowIn (length runs)) rows → All (λ row. row.url < length texts) rows
      → items_at more longer rows ≡ items_at texts runs rows
  items_same [] rows_in urls_in = refl
  items_same (row ∷ rows) rows_in urls_in =
      ap₂ (λ item items. item ∷ items)
      (item_same row (All-head (IsRowIn (length runs)) row rows rows_in) (All-head (λ row. row.url < length texts) row rows urls_in))
      (items_same rows (All-tail (IsRowIn (length runs)) row rows rows_in) (All-tail (λ row. row.url < length texts) row rows urls_in))

-- what is kept when the tables grow
pub kept_grown : (texts more : List (List ℕ)) (runs longer : List Run) (rows : List Row) → IsKept texts runs rows → IsGrown texts more → IsGrown runs longer
    → All (IsRunIn (length more)) longer → IsKept more longer rows
kept_grown texts more runs longer rows kept grown lengthened within =
    let few : length texts ≤ length more = grown_length texts more grown in
    let fewer : length runs ≤ length longer = grown_length runs longer lengthened in
    record {
      runs_in = within;
      rows_in = All-weaker (IsRowIn (length runs)) (IsRowIn (length longer)) (λ row is. record { ordered = is.ordered; within = omega (arith, is.within, fewer) }) rows kept.rows_in;
      urls_in = All-weaker (λ row. row.url < length texts) (λ row. row.url < length more) (λ row is. omega (arith, is, few)) rows kept.urls_in;
    }

pub items_grown : (texts more : List (List ℕ)) (runs longer : List Run) (rows : List Row) → IsKept texts runs rows → IsGrown texts more → IsGrown runs longer
    → items_at more longer rows ≡ items_at texts runs rows
items_grown texts more runs longer rows kept grown lengthened =
    items_same texts more runs longer grown lengthened kept.runs_in rows kept.rows_in kept.urls_in

-- one more row, whose url and values stand behind the texts, and its runs behind the runs
module _ (texts : List (List ℕ)) (runs : List Run) (item : Item) (row : Row)
    (url : row.url ≡ length texts) (start : row.start ≡ length runs)
    (end : row.end ≡ length (runs ++ runs_from item.values (length (texts ++ item.url ∷ [])) (range_with_len 0 row.properties))) where
  abbrev front : List (List ℕ)
  front = texts ++ item.url ∷ []

  abbrev behind : List (List ℕ)
  behind = flat_map (shown_values item.values) (range_with_len 0 row.properties)

  abbrev added : List Run
  added = runs_from item.values (length (texts ++ item.url ∷ [])) (range_with_len 0 row.properties)

  own_runs : slice_range (runs ++ added) row.start row.end ≡ added
  own_runs = ap₂ (slice_range (runs ++ added)) start end ∙ range_behind runs added

  own_values : map (texts_under (front ++ behind) (slice_range (runs ++ added) row.start row.end)) (range_with_len 0 row.properties)
      ≡ map (shown_values item.values) (range_with_len 0 row.properties)
  own_values =
      ap (λ l. map (texts_under (front ++ behind) l) (range_with_len 0 row.properties)) own_runs
      ∙ map_same_range (texts_under (front ++ behind) added) (shown_values item.values) 0 row.properties
      (λ q low high. runs_give item.values (front ++ behind) q 0 row.properties (length front) low high (drop_at front behind (length front) refl))

  own_item : item_at (front ++ behind) (runs ++ added) row ≡ stored_item row.properties item
  own_item =
      let within : length texts < length front = omega (arith, length-append texts (item.url ∷ [])) in
      ap₂ item_of
      (ap (λ i. get_or (front ++ behind) i []) url ∙ get_or_append_left front behind [] (length texts) within ∙ get_or_push texts item.url [] (length texts) refl)
      own_values

  pub items_pushed : (rows : List Row) → IsKept texts runs rows
      → items_at (front ++ behind) (runs ++ added) (rows ++ row ∷ []) ≡ items_at texts runs rows ++ stored_item row.properties item ∷ []
  items_pushed rows kept =
      map-append (item_at (front ++ behind) (runs ++ added)) rows (row ∷ [])
      ∙ ap₂ (λ items own. items ++ own ∷ [])
      (items_grown texts (front ++ behind) runs (runs ++ added) rows kept (grown_front) (grown_append runs added))
      own_item
    where
      grown_front : IsGrown texts (front ++ behind)
      grown_front = subst (IsGrown texts) (sym (append_assoc texts (item.url ∷ []) behind)) (grown_append texts (item.url ∷ [] ++ behind))

-- what is kept with one more row
pub kept_pushed : (texts : List (List ℕ)) (runs : List Run) (rows : List Row) (row : Row) → IsKept texts runs rows
    → row.start ≤ row.end → row.end ≤ length runs → row.url < length texts → IsKept texts runs (rows ++ row ∷ [])
kept_pushed texts runs rows row kept ordered within url = record {
  runs_in = kept.runs_in;
  rows_in = All-push (IsRowIn (length runs)) rows row kept.rows_in (record { ordered = ordered; within = within });
  urls_in = All-push (λ row. row.url < length texts) rows row kept.urls_in url;
}

-- the same, as a push gives them
pub items_added : (texts middle more : List (List ℕ)) (text : List ℕ) (runs longer : List Run) (rows all : List Row) (item : Item) (row : Row) → IsKept texts runs rows
    → text ≡ item.url → middle ≡ texts ++ text ∷ [] → more ≡ middle ++ flat_map (shown_values item.values) (range_with_len 0 row.properties)
    → longer ≡ runs ++ runs_from item.values (length middle) (range_with_len 0 row.properties)
    → row.url ≡ length texts → row.start ≡ length runs → row.end ≡ length longer → all ≡ rows ++ row ∷ []
    → items_at more longer all ≡ items_at texts runs rows ++ stored_item row.properties item ∷ []
items_added texts middle more text runs longer rows all item row kept text_is middle_is more_is longer_is url start end all_is =
    let front_is : middle ≡ texts ++ item.url ∷ [] = middle_is ∙ ap (λ u. texts ++ u ∷ []) text_is in
    let whole_is : more ≡ (texts ++ item.url ∷ []) ++ flat_map (shown_values item.values) (range_with_len 0 row.properties) =
    more_is ∙ ap (λ m. m ++ flat_map (shown_values item.values) (range_with_len 0 row.properties)) front_is in
    let runs_are : longer ≡ runs ++ runs_from item.values (length (texts ++ item.url ∷ [])) (range_with_len 0 row.properties) =
    longer_is ∙ ap (λ m. runs ++ runs_from item.values (length m) (range_with_len 0 row.properties)) front_is in
    ap (λ t. items_at t longer all) whole_is
    ∙ ap (λ r. items_at ((texts ++ item.url ∷ []) ++ flat_map (shown_values item.values) (range_with_len 0 row.properties)) r all) runs_are
    ∙ ap (items_at ((texts ++ item.url ∷ []) ++ flat_map (shown_values item.values) (range_with_len 0 row.properties))
    (runs ++ runs_from item.values (length (texts ++ item.url ∷ [])) (range_with_len 0 row.properties))) all_is
    ∙ items_pushed texts runs item row url start (end ∙ ap length runs_are) rows kept

pub kept_added : (texts more : List (List ℕ)) (runs longer : List Run) (rows all : List Row) (row : Row) → IsKept texts runs rows
    → IsGrown texts more → IsGrown runs longer → All (IsRunIn (length more)) longer
    → row.url < length more → row.start ≡ length runs → row.end ≡ length longer → all ≡ rows ++ row ∷ [] → IsKept more longer all
kept_added texts more runs longer rows all row kept grown lengthened within url start end all_is =
    subst (IsKept more longer) (sym all_is)
    (kept_pushed more longer rows row (kept_grown texts more runs longer rows kept grown lengthened within)
    (omega (arith, grown_length runs longer lengthened)) (omega (arith, end)) url)
