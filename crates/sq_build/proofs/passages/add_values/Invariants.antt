use Rattle.std.proofs.Common.{◌≡◌, ℕ, List, ◌++◌, length, map, drop}
use Rattle.std.specs.HashMap.{get_by_text}
use Rattle.sq_tokens.specs.Token.{text_tokens}
use Rattle.sq_postings.specs.Occurrences.{posting, passage_postings}
use Rattle.sq_build.specs.Gathered.{found, IsGathered, MayFollowAll, OthersStay}
use Rattle.sq_build.specs.Lengths.{passage_lengths}
use Rattle.sq_build.specs.Words.{texts_in}
use Rattle.sq_build.proofs.passages.add_values.Given as goal

abbrev pub invariant-loop-value : goal.invariant-loop-value
invariant-loop-value l =
    IsGathered (get_by_text l.ids) (length l.lists)
    × MayFollowAll (get_by_text l.ids) l.lists (posting l.row l.ordinal 0)
    × ((t : List ℕ) → found (get_by_text l.ids) l.lists t ++ passage_postings l.row l.ordinal t (map text_tokens (texts_in (drop l.value-index l.values) l.property))
    ≡ found (get_by_text l.initial.ids) l.initial.lists t ++ passage_postings l.row 0 t (map text_tokens (texts_in l.values l.property)))
    × (l.lengths ++ passage_lengths l.row l.ordinal (map text_tokens (texts_in (drop l.value-index l.values) l.property))
    ≡ l.initial.lengths ++ passage_lengths l.row 0 (map text_tokens (texts_in l.values l.property)))
    × OthersStay (get_by_text l.initial.ids) l.initial.lists (get_by_text l.ids) l.lists
