-- What a caller sees and a query holds of, item by item.
use Rattle.std.proofs.Common.{◌≡◌, ℕ, ◌+◌, Bool, true, false, cond, List, [], ◌∷◌, map, filter, refl}
use Rattle.std.specs.Prelude.{◌&&◌}
use Rattle.std.specs.List.{list_all}
use Rattle.sq_schema.specs.declared.property.Property.{Property}
use Rattle.sq_model.specs.declared.corpus.Item.{Item}
use Rattle.sq_model.specs.Access.{Seen, seen, admits}
use Rattle.sq_model.specs.Valid.{is_item}
use Rattle.sq_engine.specs.Answer.{Meaning, hits}
use Rattle.sq_service.proofs.Placed.{Placed, StandFrom, placed, all_placed, behind_row, both, stand_all}

-- The placed items that a caller sees and that a query holds of.

module _ (schema : List Property) (items : List Item) where
  abbrev pub seen_at : Placed schema items → Seen
  seen_at p = seen p.item

  abbrev pub is_hit : List (List ℕ) → Meaning → Placed schema items → Bool
  is_hit claims meaning p = admits claims p.item && meaning.holds p.item.values

  abbrev pub kept : List (List ℕ) → Meaning → (fit : list_all (is_item schema) items ≡ true) → List (Placed schema items)
  kept claims meaning fit = filter (is_hit claims meaning) (all_placed schema items fit)

  -- what is said of the view is said of them
  first_hit : (meaning : Meaning) (item : Item) (xs : List Item) (p : Placed schema items) (ps : List (Placed schema items)) → seen p.item ≡ seen item
      → (a b : Bool) → b ≡ meaning.holds item.values → hits meaning (map seen xs) ≡ map seen_at ps
      → hits meaning (map seen (cond a (item ∷ xs) xs)) ≡ map seen_at (cond (a && b) (p ∷ ps) ps)
  first_hit meaning item xs p ps same false b is rest = rest
  first_hit meaning item xs p ps same true true is rest = rw (← is) (rw (same, rest) refl)
  first_hit meaning item xs p ps same true false is rest = rw (← is) rest

  hits_behind : (claims : List (List ℕ)) (meaning : Meaning) (rest : List Item) (row : ℕ) (stand : StandFrom items row rest) (fit : list_all (is_item schema) rest ≡ true)
      → hits meaning (map seen (filter (admits claims) rest)) ≡ map seen_at (filter (is_hit claims meaning) (placed schema items rest row stand fit))
  hits_behind claims meaning [] row stand fit = refl
  hits_behind claims meaning (item ∷ rest) row stand fit =
      first_hit meaning item (filter (admits claims) rest) _ _ refl (admits claims item) (meaning.holds item.values) refl
      (hits_behind claims meaning rest (row + 1) (behind_row items rest row item stand) (both (is_item schema item) (list_all (is_item schema) rest) fit).1)

  pub hits_are : (claims : List (List ℕ)) (meaning : Meaning) (fit : list_all (is_item schema) items ≡ true)
      → hits meaning (map seen (filter (admits claims) items)) ≡ map seen_at (kept claims meaning fit)
  hits_are claims meaning fit = hits_behind claims meaning items 0 (stand_all items) fit
