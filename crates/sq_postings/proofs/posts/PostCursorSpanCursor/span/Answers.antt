use Rattle.std.proofs.Common.{◌≡◌, Some, sym, ◌∙◌}
use Rattle.std.specs.Prelude.{slice_get}
use Rattle.sq_postings.proofs.PostLemmas.{first_span_is}
use Rattle.sq_postings.proofs.posts.PostCursorSpanCursor.span.Goals as goal

pub returns : goal.returns
returns c =
    let self = c.args.self.now in
    let here : slice_get self.reader 0 ≡ Some c.in_ok-here.here = sym c.here.ensures ∙ c.in_ok-here.was in
    first_span_is self.property self.reader c.in_ok-here.here here
