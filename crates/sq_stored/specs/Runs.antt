-- Runs of texts, each the values of one property of an item.
use Rattle.std.specs.Prelude.{◌≡◌, ℕ, ◌+◌, ◌==◌, ◌≤◌, Bool, if◌then◌else◌, nat_lt, List, [], ◌∷◌, ◌++◌, drop, length, slice_range}
use Rattle.std.specs.List.{find}
use Rattle.std.specs.Option.{unwrap_or}
use Rattle.sq_model.specs.declared.corpus.Value.{Value}
use Rattle.sq_stored.specs.declared.runs.Run.{Run}
use Rattle.sq_stored.specs.Shown.{shown_values}

-- more stands behind the items, which are all still there
abbrev pub IsGrown : {X : Type 0} → List X → List X → Type 0
IsGrown items more = more ≡ items ++ drop (length items) more

-- a run among so many texts
pub record IsRunIn (count : ℕ) (run : Run) : Type 0 where
  pub ordered : run.start ≤ run.end
  pub within : run.end ≤ count

abbrev pub is_run_of : ℕ → Run → Bool
is_run_of property run = run.property == property

-- the run of a property, and one without texts where there is none
abbrev pub run_under : List Run → ℕ → Run
run_under runs property = unwrap_or (find (is_run_of property) runs) (record { property = 0; start = 0; end = 0 })

abbrev pub run_texts : List (List ℕ) → Run → List (List ℕ)
run_texts texts run = slice_range texts run.start run.end

-- the texts of a property
abbrev pub texts_under : List (List ℕ) → List Run → ℕ → List (List ℕ)
texts_under texts runs property = run_texts texts (run_under runs property)

-- a run of so many texts from this number on, where there are some
abbrev pub run_of : ℕ → ℕ → ℕ → List Run
run_of property start count = if nat_lt start (start + count) then record { property = property; start = start; end = start + count } ∷ [] else []

-- the runs of these properties, whose texts stand one after the other from this number on
abbrev pub runs_from : List Value → ℕ → List ℕ → List Run
runs_from values start [] = []
runs_from values start (property ∷ properties) =
    run_of property start (length (shown_values values property)) ++ runs_from values (start + length (shown_values values property)) properties
