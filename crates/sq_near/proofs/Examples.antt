-- Worked examples of joins and merges, over the text `merger of the old bank`.
use Rattle.std.proofs.Common.{◌≡◌, ℕ, true, false, List, [], ◌∷◌, refl}
use Rattle.sq_cursor.specs.declared.span.Span.{Span}
use Rattle.sq_near.specs.Covers.{joined_spans, merged_spans}

abbrev token_span : ℕ → ℕ → Span
token_span first last = record { row = 2; part = 1_000; first = first; last = last }

abbrev merger : List Span
merger = token_span 0 0 ∷ []

abbrev phrase : List Span
phrase = token_span 3 4 ∷ []

abbrev bank : List Span
bank = token_span 4 4 ∷ []

-- at a distance of two tokens the shorter operand doesn't reach, and the longer one does
short_of_it : joined_spans 4 false (merger ∷ bank ∷ []) ≡ []
short_of_it = refl

within_reach : joined_spans 5 false (merger ∷ phrase ∷ []) ≡ token_span 0 4 ∷ []
within_reach = refl

-- operands may share a token where they are in any order
shared : joined_spans 5 false (phrase ∷ bank ∷ []) ≡ phrase
shared = refl

not_behind : joined_spans 5 true (phrase ∷ bank ∷ []) ≡ []
not_behind = refl

-- a merge keeps the shorter of two
shorter : merged_spans (phrase ∷ bank ∷ merger ∷ []) ≡ token_span 0 0 ∷ token_span 4 4 ∷ []
shorter = refl
