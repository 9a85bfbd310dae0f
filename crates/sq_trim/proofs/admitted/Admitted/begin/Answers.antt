use Rattle.std.proofs.Common.{◌≡◌, ◌∙◌, ap, subst, arith}
use Rattle.std.proofs.lemmas.Result.{err_from_is_err_and}
use Rattle.sq_trim.specs.Flags.{flagged, left_of}
use Rattle.sq_trim.specs.Trimmed.{flags_by}
use Rattle.sq_trim.proofs.TrimLemmas.{admitted, within}
use Rattle.sq_trim.proofs.admitted.Admitted.begin.Goals as goal

pub returns-in_err-flags-clause-cost : goal.returns-in_err-flags-clause-cost
returns-in_err-flags-clause-cost g c =
    let refused = err_from_is_err_and c.from_residual.result c.from_residual.ensures.1 in
    rw refused.1 (λ corpus valid stands. within c.args.index.now c.args.claims.now corpus stands c.args.steps.now c.flags_of.new.steps c.in_err-flags.ensures.cost)

pub returns-clause-left : goal.returns-clause-left
returns-clause-left g c = λ corpus valid stands.
    let flags = c.in_ok-flags.flags.items in
    let read : c.deref.result.now ≡ flags = c.deref.ensures.value in
    let first : left_of c.first_from-next.result flags ≡ flagged 0 flags =
    subst (λ some. left_of c.first_from-next.result some ≡ flagged 0 some) read c.first_from-next.ensures in
    first ∙ (ap (flagged 0) c.in_ok-flags.ensures.flags ∙ admitted c.args.index.now c.args.claims.now corpus valid stands)

pub returns-clause-cost : goal.returns-clause-cost
returns-clause-cost g c = λ corpus valid stands.
    let most = within c.args.index.now c.args.claims.now corpus stands c.args.steps.now c.flags_of.new.steps c.in_ok-flags.ensures.cost in
    omega (arith, most)
