-- The places of a passage at which a phrase stands.
use Rattle.std.specs.Prelude.{ℕ, ◌+◌, Bool, not, ◌&&◌, ◌||◌, ◌==◌, List, length, filter}
use Rattle.std.specs.List.{list_any, range_with_len}
use Rattle.sq_tokens.specs.Pattern.{Phrase, fits_at}
use Rattle.sq_model.specs.Passages.{Passage}

-- the places at which the phrase fits, rising
abbrev pub places : Phrase → Passage → List ℕ
places phrase passage = filter (fits_at phrase passage) (range_with_len 0 (length passage))

-- m tokens at place i are the first of a passage of `len` tokens where `starts`, and the last where `ends`
abbrev pub is_edge : Bool → Bool → ℕ → ℕ → ℕ → Bool
is_edge starts ends m len i = (not starts || i == 0) && (not ends || i + m == len)

-- the phrase fits at the beginning of the passage where `starts`, and by the same place at its end where `ends`
abbrev pub fits_edge : Phrase → Bool → Bool → Passage → Bool
fits_edge phrase starts ends passage = list_any (is_edge starts ends (length phrase.texts) (length passage)) (places phrase passage)
