use Rattle.std.proofs.Common.{◌≡◌, ap, ◌∙◌, subst, IfOk}
use Rattle.sq_collect.specs.Counted.{count_in, counted_singles, counted_buckets}
use Rattle.std.specs.Prelude.{None}
use Rattle.sq_collect.proofs.RefinerLemmas.{singles_are, buckets_are}
use Rattle.sq_collect.proofs.refiner.Refiner.entries.Goals as goal

pub returns-then-self : goal.returns-then-self
returns-then-self c = λ index property bounds rows is up.
    let refiner = c.args.self.now in
    subst (λ all. IfOk c.singles_of.result (λ found. found ≡ all))
    (ap (λ cs. counted_singles (count_in cs) 0 c.deref.result.now) c.deref-then-self.ensures.value
    ∙ ap (λ ms. counted_singles (count_in refiner.counts.items) 0 ms) c.deref.ensures.value
    ∙ singles_are index property bounds refiner rows is c.if-self.true)
    c.singles_of.ensures

pub returns-else-self : goal.returns-else-self
returns-else-self c = λ index property bounds rows is up.
    let refiner = c.args.self.now in
    subst (λ all. IfOk c.buckets_of.result (λ found. found ≡ all))
    (ap (λ cs. counted_buckets (count_in cs) 0 None c.deref-else-self.result.now) c.deref-else-self-2.ensures.value
    ∙ ap (λ ms. counted_buckets (count_in refiner.counts.items) 0 None ms) c.deref-else-self.ensures.value
    ∙ buckets_are index property bounds refiner rows is c.if-self.false refiner.rises)
    c.buckets_of.ensures
