-- What is left of streams, by the definition of a near.
use Rattle.std.specs.Prelude.{◌≡◌, ◌↔◌, ◌≤◌, ℕ, Bool, true, List, [], ◌∷◌, map}
use Rattle.sq_cursor.specs.declared.span.Span.{Span}
use Rattle.sq_cursor.specs.Spans.{passage_of, are_ordered}
use Rattle.sq_model.specs.Lists.{joined}
use Rattle.sq_model.specs.Triples.{near}
use Rattle.sq_model.specs.declared.triple.Triple.{Triple}
use Rattle.sq_model.proofs.Members.{IsIn}
use Rattle.sq_near.specs.Covers.{matches_at, joined_spans, merged_spans}

-- one of the matches goes from first to last, and so does each that lies within
pub record IsLeastPair (matches : List Triple) (first last : ℕ) : Type 0 where
  pub here : (t : Triple) × IsIn t matches × (t.first ≡ first) × (t.last ≡ last)
  pub least : (t : Triple) → IsIn t matches → first ≤ t.first → t.last ≤ last → (t.first ≡ first) × (t.last ≡ last)

-- as those of cursors are
abbrev pub AllOrdered : List (List Span) → Type 0
AllOrdered [] = Unit {0}
AllOrdered (l ∷ lists) = (are_ordered l ≡ true) × AllOrdered lists

-- In each passage a join has just the least pairs of a near over the parts' spans, where the width is the whole distance.
abbrev pub JoinedAreLeast : Type 0
JoinedAreLeast = (width : ℕ) (ordered : Bool) (lists : List (List Span)) → AllOrdered lists → (s : Span) →
    IsIn s (joined_spans width ordered lists) ↔ IsLeastPair (near width ordered (map (matches_at 0 (passage_of s)) lists)) s.first s.last

-- In each passage a merge has just the least pairs of the union of the parts' spans.
abbrev pub MergedAreLeast : Type 0
MergedAreLeast = (lists : List (List Span)) → AllOrdered lists → (s : Span) →
    IsIn s (merged_spans lists) ↔ IsLeastPair (joined (map (matches_at 0 (passage_of s)) lists)) s.first s.last
