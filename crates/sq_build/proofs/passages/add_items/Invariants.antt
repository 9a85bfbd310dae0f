use Rattle.std.proofs.Common.{◌≡◌, ℕ, List, ◌++◌, length, drop}
use Rattle.std.specs.HashMap.{get_by_text}
use Rattle.sq_postings.specs.Occurrences.{posting, postings_from}
use Rattle.sq_build.specs.Gathered.{found, IsGathered, MayFollowAll, OthersStay}
use Rattle.sq_build.specs.Lengths.{lengths_from}
use Rattle.sq_build.proofs.passages.add_items.Given as goal

abbrev pub invariant-loop-row : goal.invariant-loop-row
invariant-loop-row l =
    IsGathered (get_by_text l.ids) (length l.lists)
    × MayFollowAll (get_by_text l.ids) l.lists (posting l.row 0 0)
    × ((t : List ℕ) → found (get_by_text l.ids) l.lists t ++ postings_from l.row l.property t (drop l.row l.items) ≡ postings_from 0 l.property t l.items)
    × (l.lengths ++ lengths_from l.row l.property (drop l.row l.items) ≡ l.initial.lengths ++ lengths_from 0 l.property l.items)
    × OthersStay (get_by_text l.initial.ids) l.initial.lists (get_by_text l.ids) l.lists
