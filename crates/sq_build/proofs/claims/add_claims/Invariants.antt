use Rattle.std.proofs.Common.{◌≡◌, ℕ, List, [], ◌∷◌, ◌++◌, cond, take}
use Rattle.std.specs.HashMap.{get_by_text}
use Rattle.std.specs.List.{list_any}
use Rattle.std.specs.Str.{bytes_eq}
use Rattle.sq_build.specs.Claims.{rows_under}
use Rattle.sq_build.proofs.claims.add_claims.Given as goal

abbrev pub invariant-loop-claim : goal.invariant-loop-claim
invariant-loop-claim l =
    (t : List ℕ) → rows_under (get_by_text l.rows t) ≡ rows_under (get_by_text l.initial.rows t) ++ cond (list_any (bytes_eq t) (take l.claim-index l.claims)) (l.row ∷ []) []
