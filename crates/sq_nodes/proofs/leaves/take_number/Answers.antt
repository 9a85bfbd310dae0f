use Rattle.std.proofs.Common.{rules, SFits, w64, to_z-of_z, ◌<◌, Some, sym, ap, ◌∙◌, arith}
use Rattle.sq_nodes.specs.Leaves.{numbers_in, first_number, without_first_number}
use Rattle.sq_nodes.proofs.NumberLemmas as numbers
use Rattle.sq_nodes.proofs.leaves.take_number.Goals as goal

pub returns-in_err-here-clause-value : goal.returns-in_err-here-clause-value
returns-in_err-here-clause-value g c =
    let none = numbers.none_left c.args.row c.args.values.now c.seek.new.self c.seek.ensures.left (sym c.in_err-here.ensures.value) c.args.row (omega arith) in
    c.from_residual.ensures ∙ sym (ap first_number none)

pub returns-in_err-here-clause-left : goal.returns-in_err-here-clause-left
returns-in_err-here-clause-left g c =
    let none = numbers.none_left c.args.row c.args.values.now c.seek.new.self c.seek.ensures.left (sym c.in_err-here.ensures.value) c.args.row (omega arith) in
    numbers.numbers_kept c.args.row c.args.values.now c.seek.new.self c.args.row c.seek.ensures.left (omega arith) ∙ none ∙ sym (ap without_first_number none)

pub returns-in_err-here-clause-later : goal.returns-in_err-here-clause-later
returns-in_err-here-clause-later g c = λ r l. numbers.numbers_kept c.args.row c.args.values.now c.seek.new.self r c.seek.ensures.left (omega arith)

pub returns-then-here-row-clause-value : goal.returns-then-here-row-clause-value
returns-then-here-row-clause-value g c =
    let ahead = numbers.forward c.args.row c.args.values.now c.seek.new.self c.in_ok-here.here c.in_ok-here.number c.here.ensures.rising c.seek.ensures.left (sym c.in_ok-here.ensures.value) in
    let below : c.args.row < c.in_ok-here.here = omega (arith, ahead, c.if-here-row.true) in
    let none = numbers.none_before c.args.row c.args.values.now c.seek.new.self c.in_ok-here.here c.in_ok-here.number
    c.here.ensures.rising c.seek.ensures.left (sym c.in_ok-here.ensures.value) c.args.row (omega arith) below in
    sym (ap first_number none)

pub returns-then-here-row-clause-left : goal.returns-then-here-row-clause-left
returns-then-here-row-clause-left g c =
    let ahead = numbers.forward c.args.row c.args.values.now c.seek.new.self c.in_ok-here.here c.in_ok-here.number c.here.ensures.rising c.seek.ensures.left (sym c.in_ok-here.ensures.value) in
    let below : c.args.row < c.in_ok-here.here = omega (arith, ahead, c.if-here-row.true) in
    let none = numbers.none_before c.args.row c.args.values.now c.seek.new.self c.in_ok-here.here c.in_ok-here.number
    c.here.ensures.rising c.seek.ensures.left (sym c.in_ok-here.ensures.value) c.args.row (omega arith) below in
    numbers.numbers_kept c.args.row c.args.values.now c.seek.new.self c.args.row c.seek.ensures.left (omega arith) ∙ none ∙ sym (ap without_first_number none)

pub returns-then-here-row-clause-later : goal.returns-then-here-row-clause-later
returns-then-here-row-clause-later g c = λ r l. numbers.numbers_kept c.args.row c.args.values.now c.seek.new.self r c.seek.ensures.left (omega arith)

pub returns-clause-value : goal.returns-clause-value
returns-clause-value g c =
    let fits : SFits w64 c.in_ok-here.number = search rules in
    ap Some (to_z-of_z fits)
    ∙ sym (ap first_number (numbers.one_taken c.args.row c.args.values.now c.seek.new.self c.in_ok-here.here c.in_ok-here.number c.seek.ensures.left (sym c.in_ok-here.ensures.value) c.if-here-row.false))

pub returns-clause-left : goal.returns-clause-left
returns-clause-left g c =
    ap (numbers_in c.args.row) c.step.ensures.left
    ∙ sym (ap without_first_number (numbers.one_taken c.args.row c.args.values.now c.seek.new.self c.in_ok-here.here c.in_ok-here.number c.seek.ensures.left (sym c.in_ok-here.ensures.value) c.if-here-row.false))

pub returns-clause-later : goal.returns-clause-later
returns-clause-later g c = λ r l.
    ap (numbers_in r) c.step.ensures.left
    ∙ numbers.others_left c.args.row c.args.values.now c.seek.new.self c.in_ok-here.here c.in_ok-here.number c.seek.ensures.left (sym c.in_ok-here.ensures.value) c.if-here-row.false r l
