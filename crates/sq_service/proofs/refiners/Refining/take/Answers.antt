use Rattle.sq_service.proofs.refiners.Refining.take.Goals as goal

pub returns-clause-taken : goal.returns-clause-taken
returns-clause-taken g c = λ index schema asked rows is rising. record {
  named = is.named;
  counts = c.take.ensures.counts index c.args.self.now.property asked.bounds rows is.counts rising;
}
