use Rattle.std.proofs.Common.{◌≡◌, None, length, sym, ap, ◌∙◌, arith}
use Rattle.sq_nodes.specs.Scores.{node_score}
use Rattle.sq_trim.specs.Flags.{left_rises}
use Rattle.sq_eval.specs.Meaning.{scored_rows}
use Rattle.sq_eval.specs.Plans.{admitted_left, first, without_first}
use Rattle.sq_eval.proofs.HitLemmas.{from_first, same_from, none_scored, skipped_rows, first_scored, first_unscored, fewer_from}
use Rattle.sq_eval.proofs.plan.Plan.next.Goals as goal

pub returns-in_err-to-clause-value : goal.returns-in_err-to-clause-value
returns-in_err-to-clause-value g c =
    let cursor = c.loop-row.self.admitted in
    let rows = admitted_left cursor in
    let old = node_score c.loop-row.self.tree in
    let from = from_first rows c.in-Some.row (left_rises cursor.next cursor.flags.items) (sym c.in-Some.ensures) in
    let empty = none_scored old c.in-Some.row rows from (λ r l. c.in_err-to.ensures.none r l tt) in
    let none : c.from_residual.result ≡ None = cc in
    none ∙ sym (ap first empty) ∙ ap first c.loop-row.invariant.left

pub returns-in_err-to-clause-left : goal.returns-in_err-to-clause-left
returns-in_err-to-clause-left g c =
    let cursor = c.loop-row.self.admitted in
    let rows = admitted_left cursor in
    let old = node_score c.loop-row.self.tree in
    let new = node_score c.skip_to.new.self in
    let from = from_first rows c.in-Some.row (left_rises cursor.next cursor.flags.items) (sym c.in-Some.ensures) in
    let empty = none_scored old c.in-Some.row rows from (λ r l. c.in_err-to.ensures.none r l tt) in
    same_from old new c.in-Some.row rows from c.skip_to.ensures.later ∙ empty ∙ sym (ap without_first empty) ∙ ap without_first c.loop-row.invariant.left

pub loop-row-smaller-then-row-to : goal.loop-row-smaller-then-row-to
loop-row-smaller-then-row-to g c =
    let rows = admitted_left c.loop-row.self.admitted in
    let fewer = fewer_from c.in_ok-to.to c.in-Some.row rows (sym c.in-Some.ensures) c.if-row-to.true in
    let left = ap length c.seek.ensures.left in
    omega (arith, fewer, left)

pub loop-row-preserved-then-row-to : goal.loop-row-preserved-then-row-to
loop-row-preserved-then-row-to g c =
    let cursor = c.loop-row.self.admitted in
    let rows = admitted_left cursor in
    let old = node_score c.loop-row.self.tree in
    let new = node_score c.skip_to.new.self in
    let from = from_first rows c.in-Some.row (left_rises cursor.next cursor.flags.items) (sym c.in-Some.ensures) in
    record {
      left = ap (scored_rows new) c.seek.ensures.left
          ∙ skipped_rows old new c.in-Some.row c.in_ok-to.to rows from c.in_ok-to.ensures.none c.skip_to.ensures.later
          ∙ c.loop-row.invariant.left;
      cost = omega (arith, c.skip_to.ensures.cost, c.seek.ensures.cost, c.loop-row.invariant.cost);
    }

pub returns-in-Some-take-clause-left : goal.returns-in-Some-take-clause-left
returns-in-Some-take-clause-left g c =
    let cursor = c.loop-row.self.admitted in
    let rows = admitted_left cursor in
    let old = node_score c.loop-row.self.tree in
    let new = node_score c.skip_to.new.self in
    let from = from_first rows c.in-Some.row (left_rises cursor.next cursor.flags.items) (sym c.in-Some.ensures) in
    c.take.ensures.left
    ∙ sym (ap without_first (first_scored new rows c.in-Some.row c.in-Some-take.boost (sym c.in-Some.ensures) (sym c.in-Some-take.ensures.value)))
    ∙ ap without_first (same_from old new c.in-Some.row rows from c.skip_to.ensures.later)
    ∙ ap without_first c.loop-row.invariant.left

pub loop-row-preserved : goal.loop-row-preserved
loop-row-preserved g c =
    let cursor = c.loop-row.self.admitted in
    let rows = admitted_left cursor in
    let old = node_score c.loop-row.self.tree in
    let new = node_score c.skip_to.new.self in
    let from = from_first rows c.in-Some.row (left_rises cursor.next cursor.flags.items) (sym c.in-Some.ensures) in
    let none : new c.in-Some.row ≡ None = cc in
    record {
      left = c.take.ensures.left
          ∙ sym (first_unscored new rows c.in-Some.row (sym c.in-Some.ensures) none)
          ∙ same_from old new c.in-Some.row rows from c.skip_to.ensures.later
          ∙ c.loop-row.invariant.left;
      cost = omega (arith, c.skip_to.ensures.cost, c.take.ensures.cost, c.loop-row.invariant.cost);
    }
