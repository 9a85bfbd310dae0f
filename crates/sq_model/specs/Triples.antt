-- Where expressions match in a passage: the first token, the last token and the weight of each match.
use Rattle.std.specs.Prelude.{ℕ, ◌+◌, ◌-◌, min, max, Bool, true, not, ◌&&◌, ◌||◌, nat_lt, nat_le, List, [], ◌∷◌, map, length, filter, filter_map, flat_map}
use Rattle.std.specs.List.{reduce}
use Rattle.sq_tokens.specs.Pattern.{Phrase}
use Rattle.sq_model.specs.Passages.{Passage}
use Rattle.sq_model.specs.Places.{places}
use Rattle.sq_model.specs.declared.triple.Triple.{Triple}

-- the match of a phrase of m tokens at place i
abbrev pub at_place : ℕ → ℕ → Triple
at_place m i = record { first = i; last = i + m - 1; weight = m }

-- the matches of a phrase
abbrev pub of_phrase : Phrase → Passage → List Triple
of_phrase phrase passage = map (at_place (length phrase.texts)) (places phrase passage)

-- the least first, the greatest last and the sum of the weights
abbrev pub join : Triple → Triple → Triple
join s t = record { first = min s.first t.first; last = max s.last t.last; weight = s.weight + t.weight }

-- every choice of one element of each list
abbrev pub choices : {X : Type 0} → List (List X) → List (List X)
choices [] = [] ∷ []
choices (xs ∷ rest) = flat_map (λ x. map (λ chosen. x ∷ chosen) (choices rest)) xs

-- each match ends before the next one begins
abbrev pub rises : List Triple → Bool
rises [] = true
rises (s ∷ []) = true
rises (s ∷ t ∷ rest) = nat_lt s.last t.first && rises (t ∷ rest)

-- from first to last lie at most n tokens more than were matched
abbrev pub is_near : ℕ → Triple → Bool
is_near n s = nat_le (s.last - s.first + 1) (n + s.weight)

abbrev pub keeps_order : Bool → List Triple → Bool
keeps_order ordered chosen = not ordered || rises chosen

-- One match of each part, in order where `ordered`, joined, and near one another.
abbrev pub near : ℕ → Bool → List (List Triple) → List Triple
near n ordered parts = filter (is_near n) (filter_map (reduce join) (filter (keeps_order ordered) (choices parts)))
