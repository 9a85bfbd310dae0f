-- The score of an expression for the values of an item: nothing where it doesn't hold, and else its boost.
use Rattle.std.specs.Prelude.{ℤ, pos, not, List, [], ◌∷◌, length, sum_by, Option, Some, None, is_some}
use Rattle.std.specs.List.{list_any}
use Rattle.sq_schema.specs.declared.property.Property.{Property}
use Rattle.sq_model.specs.Fql.{is_counted}
use Rattle.sq_model.specs.Lists.{is_empty}
use Rattle.sq_model.specs.Looked.{looked}
use Rattle.sq_model.specs.Passages.{numbers, some_within}
use Rattle.sq_model.specs.Places.{places, fits_edge}
use Rattle.sq_model.specs.Spans.{triples}
use Rattle.sq_model.specs.declared.corpus.Value.{Value}
use Rattle.sq_model.specs.declared.fql.FTree.{FTree, All, Spans, Count, Edge, Within, And', Or', AndNot', Not', Filter', Xrank', Row_of-FTree, end_of-FTree, more_of-FTree}
use Rattle.sq_nodes.specs.Scores.{all_from, some_from, unless, with_boost}
use Rattle.sq_nodes.specs.Leaves.{plain}

abbrev mutual
  -- sums are kept in 64 bits
  pub scored : List Property → List Value → FTree → Option ℤ
  scored schema values All = Some (pos 0)
  scored schema values (Spans look tree) = plain (list_any (λ passage. not (is_empty (triples passage tree))) (looked look schema values))
  scored schema values (Count look leaf from to) =
      plain (is_counted from to (sum_by (λ passage. length (places leaf.pattern passage)) (looked look schema values)))
  scored schema values (Edge look leaf starts ends) = plain (list_any (fits_edge leaf.pattern starts ends) (looked look schema values))
  scored schema values (Within property first last) = plain (some_within first last (numbers values property))
  scored schema values (And' shape parts) = all_from (pos 0) (scored_each schema values parts)
  scored schema values (Or' shape parts) = some_from None (scored_each schema values parts)
  scored schema values (AndNot' s (more_of-FTree first end_of-FTree) t others) =
      unless (list_any is_some (scored_each schema values others)) (scored schema values first)
  scored schema values (Not' s (more_of-FTree inner end_of-FTree)) = plain (not (is_some (scored schema values inner)))
  scored schema values (Filter' s (more_of-FTree inner end_of-FTree)) = plain (is_some (scored schema values inner))
  scored schema values (Xrank' s (more_of-FTree matched end_of-FTree) t ranks cb) =
      with_boost (list_any is_some (scored_each schema values ranks)) cb (scored schema values matched)

  pub scored_each : {m : _} → List Property → List Value → Row_of-FTree m → List (Option ℤ)
  scored_each schema values end_of-FTree = []
  scored_each schema values (more_of-FTree part rest) = scored schema values part ∷ scored_each schema values rest
