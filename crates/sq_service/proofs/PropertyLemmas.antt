-- Properties by their names.
use Rattle.std.proofs.Common.{◌≡◌, ℕ, ◌≤◌, ◌<◌, Bool, true, false, cond, List, length, Option, Some, None, refl, sym, ap, ◌∙◌, arith}
use Rattle.std.specs.Prelude.{nat_lt, slice_get, position, option_and_then}
use Rattle.std.specs.List.{find, position_or_len}
use Rattle.std.proofs.lemmas.Bool.Decides.{nat_tests}
use Rattle.std.proofs.lemmas.List.Folds.{find_at}
use Rattle.std.proofs.lemmas.Option.{slice_get_past}
use Rattle.sq_schema.specs.declared.property.Property.{Property}
use Rattle.sq_schema.specs.Properties.{has_name}
use Rattle.sq_packet.specs.declared.request.RefinerSpec.{RefinerSpec}
use Rattle.sq_engine.specs.Verdict.{is_refinable}

past : (n m : ℕ) → nat_lt n m ≡ false → m ≤ n
past n m e = grind (arith, nat_tests, e)

-- the first that passes stands at the position of the first that passes
at_place : {X : Type 0} (xs : List X) (n : ℕ) (t : Bool) → nat_lt n (length xs) ≡ t → slice_get xs n ≡ option_and_then (slice_get xs) (cond t (Some n) None)
at_place xs n true is = refl
at_place xs n false is = slice_get_past xs n (past n (length xs) is)

find_placed : {X : Type 0} (test : X → Bool) (xs : List X) → find test xs ≡ option_and_then (slice_get xs) (position test xs)
find_placed test xs = find_at test xs ∙ at_place xs (position_or_len test xs) (nat_lt (position_or_len test xs) (length xs)) refl

module _ (schema : List Property) (refiner : RefinerSpec) (name : List ℕ) (named : name ≡ refiner.name) where
  found : find (has_name refiner.name) schema ≡ option_and_then (slice_get schema) (position (has_name name) schema)
  found = ap (λ n. find (has_name n) schema) (sym named) ∙ find_placed (has_name name) schema

  abbrev refinable : Option Property → Bool
  refinable None = false
  refinable (Some property) = property.refinable

  pub refinable_none : position (has_name name) schema ≡ None → false ≡ is_refinable schema refiner
  refinable_none at = sym (ap refinable (found ∙ ap (option_and_then (slice_get schema)) at))

  pub refinable_past : (row : ℕ) → position (has_name name) schema ≡ Some row → None ≡ slice_get schema row → false ≡ is_refinable schema refiner
  refinable_past row at none = sym (ap refinable (found ∙ ap (option_and_then (slice_get schema)) at ∙ sym none))

  pub refinable_row : (row : ℕ) (property : Property) → position (has_name name) schema ≡ Some row → Some property ≡ slice_get schema row
      → property.refinable ≡ is_refinable schema refiner
  refinable_row row property at some = sym (ap refinable (found ∙ ap (option_and_then (slice_get schema)) at ∙ sym some))

-- a place that is found is within the list
placed_within : (n m row : ℕ) (t : Bool) → nat_lt n m ≡ t → cond t (Some n) None ≡ Some row → row < m
placed_within n m row true is found = let same : n ≡ row = cc in grind (arith, nat_tests, is, same)
placed_within n m row false is found = absurd (cc)

pub position_within : {X : Type 0} (test : X → Bool) (xs : List X) (row : ℕ) → position test xs ≡ Some row → row < length xs
position_within test xs row found = placed_within (position_or_len test xs) (length xs) row (nat_lt (position_or_len test xs) (length xs)) refl found
