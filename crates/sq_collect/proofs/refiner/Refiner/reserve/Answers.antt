use Rattle.std.proofs.Common.{◌≡◌, true, map, sym, subst}
use Rattle.sq_packet.specs.Refiners.{are_rising}
use Rattle.sq_postings.specs.Indexed.{values_in}
use Rattle.sq_collect.specs.Counted.{number_of}
use Rattle.sq_collect.proofs.RefinerLemmas.{marks_rise}
use Rattle.sq_collect.proofs.refiner.Refiner.reserve.Goals as goal

pub invariant_of-result-clause-rises : goal.invariant_of-result-clause-rises
invariant_of-result-clause-rises g c =
    subst (λ ms. are_rising ms ≡ true) (sym c.in_ok-marks.ensures.marks) (marks_rise c.args.bounds.now (map number_of (values_in c.args.index.now c.args.property)) c.requires)
