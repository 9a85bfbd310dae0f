use Rattle.std.proofs.Common.{◌≡◌, ◌+◌, ap, sym, ◌∙◌, subst, drop}
use Rattle.std.specs.Prelude.{slice_index_or, []}
use Rattle.sq_coded.specs.Reading.{IsAtEntry, without_first, first_count}
use Rattle.sq_coded.proofs.ReadLemmas.{drop_get, next_entry, follow_behind, at_entry}
use Rattle.sq_coded.proofs.SeekLemmas.{step_paid}
use Rattle.sq_coded.proofs.reader.Reader.step.Goals as goal

pub invariant_of-self : goal.invariant_of-self
invariant_of-self g c =
    let r = c.self.inside in
    let entries = slice_index_or r.lists.now r.list [] in
    let here = subst (λ o. IsAtEntry entries r.at o r.more r.bytes r.last r.end) c.in-Some.is c.self.invariant.entry in
    let next = next_entry entries (r.at + 1) c.in-Some.here r.more r.bytes r.last r.end (follow_behind entries r.at c.in-Some.here c.self.invariant.rises here.0) c.if-self-gt0.true here.1 in
    let read = c.entry.ensures next.entry next.rest next.follows next.bytes_are in
    record {
      list_is = c.self.invariant.list_is;
      few = c.self.invariant.few;
      rises = c.self.invariant.rises;
      entry = at_entry entries (r.at + 1) c.in-Some.here r.more r.bytes r.last r.end c.entry.result c.entry.new.self next read.0 read.1;
    }

pub returns-then-self-gt0-clause-left : goal.returns-then-self-gt0-clause-left
returns-then-self-gt0-clause-left g c =
    let r = c.self.inside in
    let entries = slice_index_or r.lists.now r.list [] in
    let here = subst (λ o. IsAtEntry entries r.at o r.more r.bytes r.last r.end) c.in-Some.is c.self.invariant.entry in
    sym (ap without_first (sym c.self.view_is ∙ drop_get entries r.at c.in-Some.here here.0))

pub returns-clause-left : goal.returns-clause-left
returns-clause-left g c =
    let r = c.self.inside in
    let entries = slice_index_or r.lists.now r.list [] in
    let here = subst (λ o. IsAtEntry entries r.at o r.more r.bytes r.last r.end) c.in-Some.is c.self.invariant.entry in
    c.self-2.view_is ∙ c.begin.ensures.left ∙ sym (ap without_first (sym c.self.view_is ∙ drop_get entries r.at c.in-Some.here here.0))

pub returns-then-self-gt0-clause-cost : goal.returns-then-self-gt0-clause-cost
returns-then-self-gt0-clause-cost g c =
    let r = c.self.inside in
    let entries = slice_index_or r.lists.now r.list [] in
    let here = subst (λ o. IsAtEntry entries r.at o r.more r.bytes r.last r.end) c.in-Some.is c.self.invariant.entry in
    let next = next_entry entries (r.at + 1) c.in-Some.here r.more r.bytes r.last r.end (follow_behind entries r.at c.in-Some.here c.self.invariant.rises here.0) c.if-self-gt0.true here.1 in
    let one : first_count (drop (r.at + 1) entries) ≡ 1 = ap first_count (drop_get entries (r.at + 1) next.entry next.there) in
    step_paid c.args.self.now (drop (r.at + 1) entries) c.args.steps.now c.tick.new.self c.requires
    (sym (ap without_first (sym c.self.view_is ∙ drop_get entries r.at c.in-Some.here here.0))) (c.tick.ensures ∙ ap (λ n. c.args.steps.now + n) (sym one))

pub returns-clause-cost : goal.returns-clause-cost
returns-clause-cost g c =
    let r = c.self.inside in
    let entries = slice_index_or r.lists.now r.list [] in
    let here = subst (λ o. IsAtEntry entries r.at o r.more r.bytes r.last r.end) c.in-Some.is c.self.invariant.entry in
    step_paid c.args.self.now _ c.args.steps.now c.begin.new.steps c.requires
    (c.self-2.view_is ∙ c.begin.ensures.left ∙ sym (ap without_first (sym c.self.view_is ∙ drop_get entries r.at c.in-Some.here here.0)))
    (c.begin.ensures.counted ∙ ap (λ left. c.args.steps.now + first_count left) (sym c.self-2.view_is))
