use Rattle.std.proofs.Common.{ap, sym, ◌∙◌, subst}
use Rattle.std.specs.Prelude.{slice_index_or, []}
use Rattle.sq_coded.specs.Reading.{HasEntry, entries_from, without_first}
use Rattle.sq_coded.proofs.SeekLemmas.{block_passed}
use Rattle.sq_coded.proofs.reader.Reader.pass.Goals as goal

pub returns-clause-kept : goal.returns-clause-kept
returns-clause-kept g c = λ ordinal.
    let r = c.self.inside in
    let entries = slice_index_or r.lists.now r.list [] in
    ap (entries_from c.args.row ordinal) (c.self-2.view_is ∙ c.begin.ensures.left) ∙ c.skip-at.ensures.kept ordinal
    ∙ block_passed entries r.at r.here r.more r.bytes r.last r.end c.args.row ordinal c.self.invariant.rises c.self.invariant.entry (subst HasEntry (sym c.self.view_is) c.requires) c.if-row-self.false
    ∙ ap (λ left. entries_from c.args.row ordinal (without_first left)) c.self.view_is
