use Rattle.std.proofs.Common.{◌<◌, ◌≡◌, ◌∙◌, sym, ap, length, Ok, arith}
use Rattle.sq_corpus.proofs.LineLemmas.{at_end-whole, at_end-missing, at_end-rest}
use Rattle.sq_corpus.proofs.read.end_of.Goals as goal

pub returns-in-Ok : goal.returns-in-Ok
returns-in-Ok c =
    let none : length c.args.rest.now ≡ 0 = omega (arith, c.in-empty.len_below) in
    at_end-whole c.args.line c.args.reader.before c.args.rest.now none (sym c.may_end.ensures ∙ c.if-may_end.true)
    ∙ ap (λ corpus. Ok corpus) (sym c.in-Ok.ensures)

pub returns-else-may_end : goal.returns-else-may_end
returns-else-may_end c =
    let none : length c.args.rest.now ≡ 0 = omega (arith, c.in-empty.len_below) in
    at_end-missing c.args.line c.args.reader.before c.args.rest.now none (sym c.may_end.ensures ∙ c.if-may_end.false)

pub returns-in_default : goal.returns-in_default
returns-in_default c =
    let some : 0 < length c.args.rest.now = omega (arith, c.in_default.len_at_least) in
    rw c.code_of_rest.ensures (at_end-rest c.args.line c.args.reader.before c.args.rest.now some)
