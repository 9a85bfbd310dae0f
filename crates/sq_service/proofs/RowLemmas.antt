-- The rows of the properties that are asked for, one after the other.
use Rattle.std.proofs.Common.{◌≡◌, ℕ, ◌+◌, ◌<◌, length, drop, get_or, Bool, true, false, cond, List, [], ◌∷◌, ◌++◌, append_assoc, Option, Some, None, refl, ap, sym, ◌∙◌}
use Rattle.std.specs.Prelude.{◌==◌, ◌||◌, if◌then◌else◌, position}
use Rattle.std.specs.List.{list_any}
use Rattle.std.proofs.lemmas.List.{append-nil, drop_more}
use Rattle.std.proofs.lemmas.List.Folds.{list_any-append}
use Rattle.sq_schema.specs.declared.property.Property.{Property}
use Rattle.sq_schema.specs.Properties.{has_name}
use Rattle.sq_engine.specs.Answer.{rows_of}
use Rattle.sq_service.specs.Rows.{new_row}

-- two lists have the same rows
abbrev HaveSame : List ℕ → List ℕ → Type 0
HaveSame a b = (row : ℕ) → list_any (λ other. other == row) a ≡ list_any (λ other. other == row) b

-- the rows of names, of which the first has this row
abbrev rows_by : List Property → List (List ℕ) → List ℕ → Option ℕ → List ℕ
rows_by schema names before None = rows_of schema names before
rows_by schema names before (Some row) = if list_any (λ other. other == row) before then rows_of schema names before else row ∷ rows_of schema names (row ∷ before)

either : {X : Type 0} (t : Bool) (x x' y y' : X) → x ≡ x' → y ≡ y' → cond t x y ≡ cond t x' y'
either true x x' y y' one two = one
either false x x' y y' one two = two

module _ (schema : List Property) where
  by_first : (names : List (List ℕ)) → ((a b : List ℕ) → HaveSame a b → rows_of schema names a ≡ rows_of schema names b)
      → (first : Option ℕ) (a b : List ℕ) → HaveSame a b → rows_by schema names a first ≡ rows_by schema names b first
  by_first names rest None a b same = rest a b same
  by_first names rest (Some row) a b same =
      rw (same row) (either (list_any (λ other. other == row) b) _ _ _ _ (rest a b same)
      (ap (λ rows. row ∷ rows) (rest (row ∷ a) (row ∷ b) (λ other. ap (λ t. (row == other) || t) (same other)))))

  at_first : (names : List (List ℕ)) (before : List ℕ) (first : Option ℕ)
      → elim first [ None ↦ rows_of schema names before | Some row ↦ if list_any (λ other. other == row) before then rows_of schema names before else row ∷ rows_of schema names (row ∷ before) ]
      ≡ rows_by schema names before first
  at_first names before None = refl
  at_first names before (Some row) = refl

  same_rows : (names : List (List ℕ)) (a b : List ℕ) → HaveSame a b → rows_of schema names a ≡ rows_of schema names b
  same_rows [] a b same = refl
  same_rows (name ∷ names) a b same =
      at_first names a (position (has_name name) schema) ∙ by_first names (same_rows names) (position (has_name name) schema) a b same
      ∙ sym (at_first names b (position (has_name name) schema))

  turned : (a b : Bool) → (a || b) ≡ (b || (a || false))
  turned true true = refl
  turned true false = refl
  turned false true = refl
  turned false false = refl

  -- a row stands in front or behind
  moved : (row : ℕ) (before : List ℕ) → HaveSame (row ∷ before) (before ++ row ∷ [])
  moved row before other = turned (row == other) (list_any (λ one. one == other) before) ∙ sym (list_any-append (λ one. one == other) before (row ∷ []))

  none_new : (names : List (List ℕ)) (before : List ℕ) → before ++ rows_of schema names before ≡ before ++ [] ++ rows_of schema names (before ++ [])
  none_new names before = rw append-nil refl

  if_new : (names : List (List ℕ)) (row : ℕ) (before : List ℕ) (t : Bool)
      → before ++ cond t (rows_of schema names before) (row ∷ rows_of schema names (row ∷ before))
      ≡ before ++ cond t [] (row ∷ []) ++ rows_of schema names (before ++ cond t [] (row ∷ []))
  if_new names row before true = none_new names before
  if_new names row before false =
      ap (λ rest. before ++ row ∷ rest) (same_rows names (row ∷ before) (before ++ row ∷ []) (moved row before))
      ∙ sym (append_assoc before (row ∷ []) (rows_of schema names (before ++ row ∷ [])))

  by_new : (names : List (List ℕ)) (before : List ℕ) (first : Option ℕ)
      → before ++ elim first [ None ↦ rows_of schema names before | Some row ↦ if list_any (λ other. other == row) before then rows_of schema names before else row ∷ rows_of schema names (row ∷ before) ]
      ≡ before ++ elim first [ None ↦ [] | Some row ↦ if list_any (λ other. other == row) before then [] else row ∷ [] ]
      ++ rows_of schema names (before ++ elim first [ None ↦ [] | Some row ↦ if list_any (λ other. other == row) before then [] else row ∷ [] ])
  by_new names before None = none_new names before
  by_new names before (Some row) = if_new names row before (list_any (λ other. other == row) before)

  pub one_row : (name : List ℕ) (names : List (List ℕ)) (before : List ℕ)
      → before ++ rows_of schema (name ∷ names) before ≡ before ++ new_row schema name before ++ rows_of schema names (before ++ new_row schema name before)
  one_row name names before = by_new names before (position (has_name name) schema)

  -- one name more
  pub row_loop : (names : List (List ℕ)) (i : ℕ) (name rows more all : List ℕ) → i < length names → name ≡ get_or names i name
      → more ≡ rows ++ new_row schema name rows → rows ++ rows_of schema (drop i names) rows ≡ all → more ++ rows_of schema (drop (i + 1) names) more ≡ all
  row_loop names i name rows more all within is step before =
      ap (λ one. one ++ rows_of schema (drop (i + 1) names) one) step ∙ sym (one_row name (drop (i + 1) names) rows)
      ∙ ap (λ left. rows ++ rows_of schema left rows) (ap (λ n. n ∷ drop (i + 1) names) is ∙ sym (drop_more names i name within)) ∙ before
