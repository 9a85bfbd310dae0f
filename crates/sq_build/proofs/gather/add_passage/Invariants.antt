use Rattle.std.proofs.Common.{◌≡◌, ℕ, List, ◌++◌, length, map, drop}
use Rattle.std.specs.HashMap.{get_by_text}
use Rattle.sq_postings.specs.Occurrences.{posting, places_from}
use Rattle.sq_build.specs.Gathered.{found, IsGathered, MayFollowAll, OthersStay}
use Rattle.sq_build.proofs.gather.add_passage.Given as goal

abbrev pub invariant-tokens : goal.invariant-tokens
invariant-tokens l =
    IsGathered (get_by_text l.ids) (length l.lists)
    × MayFollowAll (get_by_text l.ids) l.lists (posting l.row l.ordinal l.place)
    × ((t : List ℕ) → found (get_by_text l.ids) l.lists t ++ map (posting l.row l.ordinal) (places_from l.place t (drop l.place l.tokens))
    ≡ found (get_by_text l.initial.ids) l.initial.lists t ++ map (posting l.row l.ordinal) (places_from 0 t l.tokens))
    × OthersStay (get_by_text l.initial.ids) l.initial.lists (get_by_text l.ids) l.lists
