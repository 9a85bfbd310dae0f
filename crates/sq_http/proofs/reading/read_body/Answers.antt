use Rattle.std.proofs.Common.{◌<◌, ◌++◌, length, arith, subst, ◌∙◌, List, ℕ}
use Rattle.sq_http.specs.Gathers.{held, gained}
use Rattle.sq_http.proofs.GathersLemmas.{Gathers-fill, held-more}
use Rattle.sq_http.proofs.reading.read_body.Goals as goal

pub filling-preserved : goal.filling-preserved
filling-preserved g c =
    let inv = c.filling.invariant in
    let fill = c.fill.ensures in
    let few : length (held c.filling.buffer) < c.args.size = omega (arith, c.filling-test.true, c.len.ensures) in
    let opened : length (held c.args.buffer.now ++ gained (held c.args.buffer.now) (held c.filling.buffer)) < c.args.size =
    subst (λ (t : List ℕ). length t < c.args.size) inv.0 few in (
      held-more (λ first. length (held c.args.buffer.now ++ first) < c.args.size) _ _ _ inv.0 fill.held,
      Gathers-fill (λ first. length (held c.args.buffer.now ++ first) < c.args.size) _ _ _ inv.0 fill.held _ _ _ _ _ _ _ _ inv.4 opened inv.1 fill.gathers,
      omega (arith, fill.most, c.len-in-filling.ensures, few),
      fill.room ∙ inv.3,
      fill.sent ∙ inv.4,
      omega (arith, fill.cause.later, inv.5),
      fill.write_faults ∙ inv.6,
    )

pub returns-in_err-fill-clause-gathers : goal.returns-in_err-fill-clause-gathers
returns-in_err-fill-clause-gathers g c =
    let inv = c.filling.invariant in
    let few : length (held c.filling.buffer) < c.args.size = omega (arith, c.filling-test.true, c.len.ensures) in
    let opened : length (held c.args.buffer.now ++ gained (held c.args.buffer.now) (held c.filling.buffer)) < c.args.size =
    subst (λ (t : List ℕ). length t < c.args.size) inv.0 few in
    Gathers-fill (λ first. length (held c.args.buffer.now ++ first) < c.args.size) _ _ _ inv.0 c.fill.ensures.held _ _ _ _ _ _ _ _ inv.4 opened inv.1 c.fill.ensures.gathers

pub returns-then-not-branch-clause-gathers : goal.returns-then-not-branch-clause-gathers
returns-then-not-branch-clause-gathers g c =
    let inv = c.filling.invariant in
    let few : length (held c.filling.buffer) < c.args.size = omega (arith, c.filling-test.true, c.len.ensures) in
    let opened : length (held c.args.buffer.now ++ gained (held c.args.buffer.now) (held c.filling.buffer)) < c.args.size =
    subst (λ (t : List ℕ). length t < c.args.size) inv.0 few in
    Gathers-fill (λ first. length (held c.args.buffer.now ++ first) < c.args.size) _ _ _ inv.0 c.fill.ensures.held _ _ _ _ _ _ _ _ inv.4 opened inv.1 c.fill.ensures.gathers
