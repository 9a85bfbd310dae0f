use Rattle.std.proofs.Common.{rules, to_z, of_z, w64, ◌≡◌, Some, ap, sym, ◌∙◌, subst, true, arith}
use Rattle.std.proofs.lemmas.Int.{to_z-of_z}
use Rattle.std.specs.Prelude.{slice_get, FitsSigned}
use Rattle.sq_postings.specs.Left.{without_first_pair, pairs_from}
use Rattle.sq_collect.specs.Counted.{numbers_at, are_from, place_of, counted, next_place}
use Rattle.sq_collect.proofs.CountLemmas.{counted_all, counted_from, pair_passed, step_counted, step_from, row_done, all_done}
use Rattle.sq_collect.proofs.counts.count_row.Goals as goal

pub returns-then-here-row-clause-counts : goal.returns-then-here-row-clause-counts
returns-then-here-row-clause-counts g c =
    let left = c.loop-left.cursor in
    let held = c.loop-left.invariant in
    counted_all c.args.marks.now c.args.row c.loop-left.next c.args.cursor.now left c.args.counts.now c.loop-left.counts c.here-left.ensures.rising c.requires.from c.requires.sized held.3
    (row_done c.args.row left c.in-Some.here (sym held.0 ∙ c.in-Some.is) c.if-here-row.true held.1 held.2)

pub loop-left-preserved : goal.loop-left-preserved
loop-left-preserved g c =
    let left = c.loop-left.cursor in
    let held = c.loop-left.invariant in
    let here = c.in-Some.here in
    let first : slice_get left 0 ≡ Some here = sym held.0 ∙ c.in-Some.is in
    let row : here.0 ≡ c.args.row = c.if-here-row.false in
    let moved : c.step.new.self ≡ without_first_pair left = c.step.ensures.left in
    let place = place_of c.args.marks.now here.1 in
    let fits : FitsSigned w64 here.1 = search rules in
    let number : to_z w64 (of_z w64 here.1) ≡ here.1 = to_z-of_z w64 here.1 fits in
    let next = c.count_number-next.ensures.next in
    let raised = c.count_number-next.ensures.counts in
    let next_is : c.count_number-next.result ≡ next_place place c.loop-left.next = cc (next, number) in
    let raised_is : c.count_number-next.new.counts ≡ counted place c.loop-left.next c.loop-left.counts = cc (raised, number) in
    let paid = held.5 in
    let cost = c.step.ensures.cost in (
      c.here-left-in-Some.ensures.value,
      c.here-left-in-Some.ensures.rising,
      subst (λ ps. are_from c.args.row ps ≡ true) (sym moved) (step_from c.args.row left held.2),
      ap (λ ps. counted_from c.args.marks.now (numbers_at c.args.row ps) c.count_number-next.result c.count_number-next.new.counts) moved
          ∙ ap (λ n. counted_from c.args.marks.now (numbers_at c.args.row (without_first_pair left)) n c.count_number-next.new.counts) next_is
          ∙ ap (λ cs. counted_from c.args.marks.now (numbers_at c.args.row (without_first_pair left)) (next_place place c.loop-left.next) cs) raised_is
          ∙ sym (step_counted c.args.marks.now c.args.row c.loop-left.next c.loop-left.counts left here first row)
          ∙ held.3,
      (λ later less. ap (pairs_from later) moved ∙ pair_passed later left here first (omega (arith, less, row)) ∙ held.4 later less),
      omega (arith, paid, cost),
    )

pub returns-clause-counts : goal.returns-clause-counts
returns-clause-counts g c =
    let left = c.loop-left.cursor in
    let held = c.loop-left.invariant in
    counted_all c.args.marks.now c.args.row c.loop-left.next c.args.cursor.now left c.args.counts.now c.loop-left.counts c.here-left.ensures.rising c.requires.from c.requires.sized held.3
    (ap (numbers_at c.args.row) (all_done left (sym held.0 ∙ c.in_default.is)))
