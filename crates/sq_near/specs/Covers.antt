-- The spans of joins and of merges, passage by passage, by the definition of near.
use Rattle.std.specs.Prelude.{ℕ, Bool, ◌&&◌, eqb, List, [], ◌∷◌, map, filter, flat_map}
use Rattle.sq_cursor.specs.declared.span.Span.{Span}
use Rattle.sq_cursor.specs.Spans.{passage_of}
use Rattle.sq_model.specs.Lists.{joined}
use Rattle.sq_model.specs.Triples.{near}
use Rattle.sq_model.specs.declared.triple.Triple.{Triple}
use Rattle.sq_near.specs.Least.{least_of}

abbrev pub is_at : ℕ × ℕ → Span → Bool
is_at passage s = eqb s.row passage.0 && eqb s.part passage.1

-- a span as a match that counts for so many tokens
abbrev pub match_of : ℕ → Span → Triple
match_of weight s = record { first = s.first; last = s.last; weight = weight }

-- the spans of one passage as matches
abbrev pub matches_at : ℕ → ℕ × ℕ → List Span → List Triple
matches_at weight passage spans = map (match_of weight) (filter (is_at passage) spans)

abbrev pub span_of : ℕ × ℕ → Triple → Span
span_of passage t = record { row = passage.0; part = passage.1; first = t.first; last = t.last }

-- in each passage of the first list, the near of one span of each list, at most `width` tokens long
abbrev pub covers : ℕ → Bool → List (List Span) → List Span
covers width ordered [] = []
covers width ordered (spans ∷ lists) =
    flat_map (λ passage. map (span_of passage) (near width ordered (map (matches_at 0 passage) (spans ∷ lists)))) (map passage_of spans)

abbrev pub joined_spans : ℕ → Bool → List (List Span) → List Span
joined_spans width ordered lists = least_of (covers width ordered lists)

abbrev pub merged_spans : List (List Span) → List Span
merged_spans lists = least_of (joined lists)
