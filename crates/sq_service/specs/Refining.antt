-- The refiners of a request, by an index and the rows that came.
use Rattle.std.specs.Prelude.{◌≡◌, ℕ, ◌*◌, true, List, [], ◌∷◌, ◌++◌, length, map, position, Option, Some, None}
use Rattle.sq_schema.specs.declared.property.Property.{Property}
use Rattle.sq_schema.specs.Properties.{has_name}
use Rattle.sq_model.specs.Valid.{are_rising}
use Rattle.sq_packet.specs.declared.request.RefinerSpec.{RefinerSpec}
use Rattle.sq_response.specs.declared.response.Refined.{Refined}
use Rattle.sq_ranking.specs.Ranking.{entries}
use Rattle.sq_postings.specs.Indexed.{Indexed, values_in}
use Rattle.sq_collect.specs.Counted.{numbers_in_row}
use Rattle.sq_collect.specs.Refined.{refiner_rest, IsRefinerOf}
use Rattle.sq_engine.specs.Answer.{name_of}
use Rattle.sq_service.specs.declared.refiners.Refining.{Refining}

-- the refiner is of the property that is named, and these rows came
pub record IsRefiningOf (index : Indexed) (schema : List Property) (asked : RefinerSpec) (one : Refining) (rows : List ℕ) : Type 0 where
  pub named : position (has_name asked.name) schema ≡ Some one.property
  pub counts : IsRefinerOf index one.property asked.bounds one.refiner rows

abbrev pub AreRefiningsOf : Indexed → List Property → List RefinerSpec → List Refining → List ℕ → Type 0
AreRefiningsOf index schema [] [] rows = Unit {0}
AreRefiningsOf index schema [] (one ∷ all) rows = ⊥
AreRefiningsOf index schema (asked ∷ more) [] rows = ⊥
AreRefiningsOf index schema (asked ∷ more) (one ∷ all) rows = IsRefiningOf index schema asked one rows × AreRefiningsOf index schema more all rows

-- the refiner took one row more, behind those before
abbrev pub Took : ℕ → Option Refining → Option Refining → Type 0
Took row None None = Unit {0}
Took row None (Some after) = ⊥
Took row (Some before) None = ⊥
Took row (Some before) (Some after) = (index : Indexed) (schema : List Property) (asked : RefinerSpec) (rows : List ℕ)
    → IsRefiningOf index schema asked before rows → are_rising (rows ++ row ∷ []) ≡ true → IsRefiningOf index schema asked after (rows ++ row ∷ [])

-- how many steps the rows that are yet to come can take
abbrev pub refining_rest : Refining → ℕ
refining_rest one = refiner_rest one.refiner

-- two steps for each number of the property that a refiner names
abbrev pub refiner_cost : Indexed → List Property → RefinerSpec → ℕ
refiner_cost index schema asked = elim (position (has_name asked.name) schema) [ None ↦ 0 | Some row ↦ 2 * length (values_in index row) ]

-- the counts of a refiner over rows
abbrev pub refined_by : Indexed → List Property → List ℕ → RefinerSpec → Refined
refined_by index schema rows asked = elim (position (has_name asked.name) schema) [
  | None ↦ record { name = asked.name; entries = [] }
  | Some row ↦ record { name = name_of schema row; entries = entries asked.bounds (map (numbers_in_row index row) rows) }
]
