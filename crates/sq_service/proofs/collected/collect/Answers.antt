use Rattle.std.proofs.Common.{refl, ◌≡◌, ◌++◌, ◌∷◌, [], ℕ, ℤ, List, Some, None, SFits, w64, rules, length, sym, ◌∙◌, subst, arith}
use Rattle.std.proofs.lemmas.Int.{to_z-of_z}
use Rattle.sq_eval.specs.Plans.{plan_left, first}
use Rattle.sq_service.specs.Collected.{HasTaken}
use Rattle.sq_service.proofs.CollectedLemmas.{split_next, split_end, rest_within, here_within, rise_next, shorter}
use Rattle.sq_service.proofs.collected.collect.Goals as goal

pub loop-row-init : goal.loop-row-init
loop-row-init g c = record {
  done = [];
  split = refl;
  within = c.requires;
  taken = λ held sorts request same begun rising. begun;
  cost = omega arith;
}

pub take-requires : goal.take-requires
take-requires g c =
    let here : first (plan_left c.loop-row.plan) ≡ Some (c.in-Some.row, c.in-Some.boost) = sym c.next.ensures.value ∙ c.in-Some.is in
    here_within (plan_left c.args.plan) c.loop-row.invariant.done (plan_left c.loop-row.plan) (plan_left c.next.new.self) (c.in-Some.row, c.in-Some.boost) c.loop-row.invariant.split here c.next.ensures.left
    (length c.args.index.now.rows) c.loop-row.invariant.within

pub loop-row-smaller : goal.loop-row-smaller
loop-row-smaller g c =
    let here : first (plan_left c.loop-row.plan) ≡ Some (c.in-Some.row, c.in-Some.boost) = sym c.next.ensures.value ∙ c.in-Some.is in
    shorter (plan_left c.args.plan) c.loop-row.invariant.done (plan_left c.loop-row.plan) (plan_left c.next.new.self) (c.in-Some.row, c.in-Some.boost) c.loop-row.invariant.split here c.next.ensures.left

pub loop-row-preserved : goal.loop-row-preserved
loop-row-preserved g c =
    let before = c.loop-row.invariant in
    let all = plan_left c.args.plan in
    let left = plan_left c.loop-row.plan in
    let rest = plan_left c.next.new.self in
    let fits : SFits w64 c.in-Some.boost = search rules in
    let takes = simp to_z-of_z at c.in_ok-take.ensures.taken in
    let here : first left ≡ Some (c.in-Some.row, c.in-Some.boost) = sym c.next.ensures.value ∙ c.in-Some.is in
    record {
      done = before.done ++ (c.in-Some.row, c.in-Some.boost) ∷ [];
      split = split_next all before.done left rest (c.in-Some.row, c.in-Some.boost) before.split here c.next.ensures.left;
      within = rest_within all before.done left rest (c.in-Some.row, c.in-Some.boost) before.split here c.next.ensures.left (length c.args.index.now.rows) before.within;
      taken = λ held sorts request same begun rising.
          takes held sorts request before.done same (before.taken held sorts request same begun rising)
          (rise_next all before.done left rest (c.in-Some.row, c.in-Some.boost) before.split here c.next.ensures.left rising);
      cost = omega (arith, before.cost, c.next.ensures.cost, c.in_ok-take.ensures.cost);
    }

pub returns-clause-taken : goal.returns-clause-taken
returns-clause-taken g c = λ held sorts request same begun rising.
    let before = c.loop-row.invariant in
    let none : first (plan_left c.loop-row.plan) ≡ None = sym c.next.ensures.value ∙ c.in_default.is in
    subst (λ (hits : List (ℕ × ℤ)). HasTaken held sorts request c.loop-row.collected hits)
    (split_end (plan_left c.args.plan) before.done (plan_left c.loop-row.plan) before.split none) (before.taken held sorts request same begun rising)
