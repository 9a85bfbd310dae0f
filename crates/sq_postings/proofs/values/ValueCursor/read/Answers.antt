use Rattle.std.proofs.Common.{◌≡◌, ◌+◌, sym, ap, ◌∙◌}
use Rattle.sq_cursor.specs.Entries.{first_count}
use Rattle.sq_postings.proofs.ValueLemmas.{first_counted}
use Rattle.sq_postings.proofs.values.ValueCursor.read.Goals as goal

pub returns-then-self : goal.returns-then-self
returns-then-self g c =
    let one : first_count c.args.self.now ≡ 1 = ap first_count (sym c.self.view_is) ∙ first_counted c.self.inside.at c.self.inside.pairs.now c.if-self.true in
    c.tick.ensures ∙ ap (λ n. c.args.steps.now + n) (sym one)
