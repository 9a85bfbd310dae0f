use Rattle.std.proofs.Common.{rules, SFits, w64, ◌≡◌, ◌++◌, option_to_list, true, false, Some, sym, ap, ◌∙◌, arith}
use Rattle.std.proofs.lemmas.Int.{to_z-of_z}
use Rattle.std.proofs.lemmas.Bool.Decides.{nat_tests}
use Rattle.std.specs.Prelude.{slice_get, ◌==◌}
use Rattle.sq_collect.specs.Counted.{numbers_at}
use Rattle.sq_engine.specs.Answer.{key_among}
use Rattle.sq_service.proofs.KeyLemmas.{key_stop, key_next, from_next, later_next}
use Rattle.sq_service.proofs.keys.key_among.Goals as goal

pub returns-then-at-row-clause-value : goal.returns-then-at-row-clause-value
returns-then-at-row-clause-value g c =
    let pairs = c.loop-at.values in
    let here : slice_get pairs 0 ≡ Some (c.in-Some.at, c.in-Some.n) = sym c.here.ensures.value ∙ c.in-Some.is in
    let other : (c.in-Some.at == c.args.row) ≡ false = grind (arith, nat_tests, c.if-at-row.true) in
    sym (key_stop c.args.direction c.args.row c.loop-at.best pairs c.loop-at.invariant.from (c.in-Some.at, c.in-Some.n) here c.here.ensures.rising other)
    ∙ c.loop-at.invariant.value

pub loop-at-preserved : goal.loop-at-preserved
loop-at-preserved g c =
    let pairs = c.loop-at.values in
    let row = c.args.row in
    let here : slice_get pairs 0 ≡ Some (c.in-Some.at, c.in-Some.n) = sym c.here.ensures.value ∙ c.in-Some.is in
    let this : (c.in-Some.at == row) ≡ true = grind (arith, nat_tests, c.if-at-row.false) in
    let fits : SFits w64 c.in-Some.n = search rules in
    let next = simp to_z-of_z at c.better-best.ensures in
    record {
      value = ap (λ left. key_among c.args.direction (option_to_list c.better-best.result ++ numbers_at row left)) c.step.ensures.left
          ∙ key_next c.args.direction row c.loop-at.best pairs c.loop-at.invariant.from (c.in-Some.at, c.in-Some.n) here c.better-best.result this next
          ∙ c.loop-at.invariant.value;
      from = rw c.step.ensures.left (from_next row pairs c.loop-at.invariant.from);
      later = λ r l. ap (numbers_at r) c.step.ensures.left ∙ later_next row r pairs (c.in-Some.at, c.in-Some.n) here this l ∙ c.loop-at.invariant.later r l;
      cost = omega (arith, c.step.ensures.cost, c.loop-at.invariant.cost);
    }
