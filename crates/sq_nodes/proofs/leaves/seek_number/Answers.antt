use Rattle.std.proofs.Common.{sym}
use Rattle.sq_nodes.proofs.NumberLemmas as numbers
use Rattle.sq_nodes.proofs.leaves.seek_number.Goals as goal

pub returns-in_err-to-clause-none : goal.returns-in_err-to-clause-none
returns-in_err-to-clause-none g c = λ r l b. numbers.none_left c.args.row c.args.values.now c.seek.new.self c.seek.ensures.left (sym c.in_err-to.ensures.value) r l

pub returns-in_err-to-clause-later : goal.returns-in_err-to-clause-later
returns-in_err-to-clause-later g c = λ r l. numbers.numbers_kept c.args.row c.args.values.now c.seek.new.self r c.seek.ensures.left l

pub returns-clause-none : goal.returns-clause-none
returns-clause-none g c = λ r l b.
    numbers.none_before c.args.row c.args.values.now c.seek.new.self c.in_ok-to.to c.in_ok-to.field-0-1 c.here.ensures.rising c.seek.ensures.left (sym c.in_ok-to.ensures.value) r l b

pub returns-clause-forward : goal.returns-clause-forward
returns-clause-forward g c =
    numbers.forward c.args.row c.args.values.now c.seek.new.self c.in_ok-to.to c.in_ok-to.field-0-1 c.here.ensures.rising c.seek.ensures.left (sym c.in_ok-to.ensures.value)

pub returns-clause-later : goal.returns-clause-later
returns-clause-later g c = λ r l. numbers.numbers_kept c.args.row c.args.values.now c.seek.new.self r c.seek.ensures.left l
