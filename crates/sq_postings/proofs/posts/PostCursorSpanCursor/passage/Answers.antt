use Rattle.std.proofs.Common.{◌≡◌, ◌+◌, Some, sym, ap, ◌∙◌, arith}
use Rattle.std.specs.Prelude.{slice_get}
use Rattle.sq_postings.proofs.PostLemmas.{first_small, first_passage_is}
use Rattle.sq_postings.proofs.posts.PostCursorSpanCursor.passage.Goals as goal

pub overflow_add-result : goal.overflow_add-result
overflow_add-result c =
    let self = c.args.self.now in
    let here : slice_get self.reader 0 ≡ Some c.in_ok-here.here = sym c.here.ensures ∙ c.in_ok-here.was in
    omega (arith, first_small self.property self.reader c.in_ok-here.here self.entries here, self.entries.few, c.first_part.ensures)

pub returns : goal.returns
returns c =
    let self = c.args.self.now in
    let here : slice_get self.reader 0 ≡ Some c.in_ok-here.here = sym c.here.ensures ∙ c.in_ok-here.was in
    ap (λ n. Some (c.in_ok-here.here.row, n + c.in_ok-here.here.ordinal)) c.first_part.ensures ∙ first_passage_is self.property self.reader c.in_ok-here.here here
