use Rattle.std.proofs.Common.{◌≡◌, ℕ, true, List, map, take}
use Rattle.sq_model.specs.Valid.{are_rising}
use Rattle.sq_packet.specs.declared.request.RefinerSpec.{RefinerSpec}
use Rattle.sq_postings.specs.Indexed.{Indexed}
use Rattle.sq_service.specs.Refining.{AreRefiningsOf, refined_by}
use Rattle.sq_service.proofs.refiners.refined_of.Given as goal

abbrev pub invariant-loop-one : goal.invariant-loop-one
invariant-loop-one l =
    (index : Indexed) (asked : List RefinerSpec) (rows : List ℕ) → AreRefiningsOf index l.schema asked l.refinings rows → are_rising rows ≡ true
    → l.all ≡ map (refined_by index l.schema rows) (take l.one-index asked)
