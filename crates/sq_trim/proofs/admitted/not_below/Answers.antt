use Rattle.std.proofs.Common.{◌≡◌, ◌∙◌, sym, subst, drop}
use Rattle.std.specs.Prelude.{Some}
use Rattle.sq_cursor.specs.Rows.{rows_from}
use Rattle.sq_trim.specs.Flags.{flagged, left_of}
use Rattle.sq_trim.proofs.TrimLemmas.{sought, stays}
use Rattle.sq_trim.proofs.admitted.not_below.Goals as goal

pub returns-then-here-row : goal.returns-then-here-row
returns-then-here-row c =
    let found : left_of c.first_from.result c.args.flags.now ≡ flagged c.args.row (drop c.args.row c.args.flags.now) = c.first_from.ensures in
    let was : c.args.next ≡ Some c.in_ok-here.here = c.in_ok-here.was in
    found ∙ sym (subst (λ next. rows_from c.args.row (left_of next c.args.flags.now) ≡ flagged c.args.row (drop c.args.row c.args.flags.now)) (sym was) (sought c.args.row c.in_ok-here.here c.args.flags.now c.if-here-row.true))

pub returns-else-here-row : goal.returns-else-here-row
returns-else-here-row c =
    let was : c.args.next ≡ Some c.in_ok-here.here = c.in_ok-here.was in
    sym (subst (λ next. rows_from c.args.row (left_of next c.args.flags.now) ≡ left_of next c.args.flags.now) (sym was) (stays c.args.row c.in_ok-here.here c.args.flags.now c.if-here-row.false))
