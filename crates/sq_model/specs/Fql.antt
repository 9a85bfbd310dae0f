-- Which items an FQL expression holds of, and the boost that it gives.
use Rattle.std.specs.Prelude.{ℕ, Bool, true, not, ◌&&◌, nat_lt, nat_le, if◌then◌else◌, List, [], ◌∷◌, length, sum_by, Option, Some, None, ℤ, pos, ◌+ℤ◌}
use Rattle.std.specs.List.{list_any, list_all}
use Rattle.sq_schema.specs.declared.property.Property.{Property}
use Rattle.sq_model.specs.Lists.{is_empty, total}
use Rattle.sq_model.specs.Passages.{numbers, some_within}
use Rattle.sq_model.specs.Places.{places, fits_edge}
use Rattle.sq_model.specs.Looked.{looked}
use Rattle.sq_model.specs.Spans.{triples}
use Rattle.sq_model.specs.declared.corpus.Value.{Value}
use Rattle.sq_model.specs.declared.fql.FTree.{FTree, All, Spans, Count, Edge, Within, And', Or', AndNot', Not', Filter', Xrank', Row_of-FTree, end_of-FTree, more_of-FTree}

-- the number is below the end, if there is one
abbrev pub below : Option ℕ → ℕ → Bool
below None n = true
below (Some to) n = nat_lt n to

-- the count is at least `from`, and below the end, if there is one
abbrev pub is_counted : ℕ → Option ℕ → ℕ → Bool
is_counted from to count = nat_le from count && below to count

abbrev mutual
  -- the expression holds of an item with these values
  pub holds : List Property → List Value → FTree → Bool
  holds schema values All = true
  holds schema values (Spans look tree) = list_any (λ passage. not (is_empty (triples passage tree))) (looked look schema values)
  holds schema values (Count look leaf from to) =
      is_counted from to (sum_by (λ passage. length (places leaf.pattern passage)) (looked look schema values))
  holds schema values (Edge look leaf starts ends) = list_any (fits_edge leaf.pattern starts ends) (looked look schema values)
  holds schema values (Within property first last) = some_within first last (numbers values property)
  holds schema values (And' shape parts) = list_all (λ b. b) (holds_each schema values parts)
  holds schema values (Or' shape parts) = list_any (λ b. b) (holds_each schema values parts)
  holds schema values (AndNot' s (more_of-FTree first end_of-FTree) t others) =
      holds schema values first && not (list_any (λ b. b) (holds_each schema values others))
  holds schema values (Not' s (more_of-FTree inner end_of-FTree)) = not (holds schema values inner)
  holds schema values (Filter' s (more_of-FTree inner end_of-FTree)) = holds schema values inner
  holds schema values (Xrank' s (more_of-FTree matched end_of-FTree) t ranks cb) = holds schema values matched

  pub holds_each : {m : _} → List Property → List Value → Row_of-FTree m → List Bool
  holds_each schema values end_of-FTree = []
  holds_each schema values (more_of-FTree part rest) = holds schema values part ∷ holds_each schema values rest

abbrev mutual
  -- the boost where the expression holds
  pub gain : List Property → List Value → FTree → ℤ
  gain schema values (And' shape parts) = total (boosts schema values parts)
  gain schema values (Or' shape parts) = total (boosts schema values parts)
  gain schema values (AndNot' s (more_of-FTree first end_of-FTree) t others) = gain schema values first
  gain schema values (Xrank' s (more_of-FTree matched end_of-FTree) t ranks cb) =
      gain schema values matched +ℤ (if list_any (λ b. b) (holds_each schema values ranks) then cb else pos 0)
  gain schema values _ = pos 0

  pub boosts : {m : _} → List Property → List Value → Row_of-FTree m → List ℤ
  boosts schema values end_of-FTree = []
  boosts schema values (more_of-FTree part rest) = (if holds schema values part then gain schema values part else pos 0) ∷ boosts schema values rest

abbrev pub boost : List Property → List Value → FTree → ℤ
boost schema values tree = if holds schema values tree then gain schema values tree else pos 0
