use Rattle.std.proofs.Common.{◌≡◌, ◌-◌, ◌*◌, sym, ap, ◌∙◌, subst}
use Rattle.sq_coded.specs.Reading.{entries_from}
use Rattle.sq_postings.specs.Indexed.{spans_of}
use Rattle.sq_postings.specs.Left.{AreEntries}
use Rattle.sq_postings.proofs.PostLemmas.{seek_is, sought}
use Rattle.sq_postings.proofs.posts.PostCursorSpanCursor.seek_passage.Goals as goal

pub invariant_of-self : goal.invariant_of-self
invariant_of-self g c =
    let self = c.args.self.now in
    let place : c.saturating_sub-ordinal.result ≡ c.args.passage.1 - self.property * 1_000 = c.saturating_sub-ordinal.ensures ∙ ap (λ n. c.args.passage.1 - n) c.first_part.ensures in
    let is : c.seek.new.self ≡ entries_from c.args.passage.0 (c.args.passage.1 - self.property * 1_000) self.reader = c.seek.ensures.left ∙ ap (λ n. entries_from c.args.passage.0 n self.reader) place in
    record { entries = subst (AreEntries self.property) (sym is) (sought self.property c.args.passage.0 c.args.passage.1 self.reader self.entries) }

pub returns-clause-left : goal.returns-clause-left
returns-clause-left g c =
    let self = c.args.self.now in
    let place : c.saturating_sub-ordinal.result ≡ c.args.passage.1 - self.property * 1_000 = c.saturating_sub-ordinal.ensures ∙ ap (λ n. c.args.passage.1 - n) c.first_part.ensures in
    let is : c.seek.new.self ≡ entries_from c.args.passage.0 (c.args.passage.1 - self.property * 1_000) self.reader = c.seek.ensures.left ∙ ap (λ n. entries_from c.args.passage.0 n self.reader) place in
    ap (spans_of self.property) is ∙ seek_is self.property c.args.passage.0 c.args.passage.1 self.reader
