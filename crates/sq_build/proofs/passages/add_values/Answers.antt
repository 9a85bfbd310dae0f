use Rattle.std.proofs.Common.{◌≡◌, ◌+◌, true, ◌++◌, map, drop, sym, ap, subst, ◌∙◌}
use Rattle.std.specs.HashMap.{get_by_text}
use Rattle.sq_tokens.specs.Token.{text_tokens}
use Rattle.sq_postings.specs.Occurrences.{passage_postings}
use Rattle.sq_build.specs.Gathered.{found}
use Rattle.sq_build.specs.Lengths.{passage_lengths}
use Rattle.sq_build.specs.Words.{texts_in, is_short_value}
use Rattle.sq_build.proofs.GatherLemmas.{others_trans}
use Rattle.sq_build.proofs.ValueLemmas.{passages_step, passages_texts, postings_start, postings_end, lengths_end, follows_row}
use Rattle.sq_build.proofs.passages.add_values.Goals as goal

pub add_value-requires-clause-short : goal.add_value-requires-clause-short
add_value-requires-clause-short c =
    subst (λ v. is_short_value v ≡ true) (sym c.value-item.is) (c.requires.short c.loop-value.value-index c.value-item.result c.loop-value-test.true)

pub loop-value-preserved : goal.loop-value-preserved
loop-value-preserved c =
    let given = c.in_ok-next.ensures in
    let held = c.loop-value.invariant in
    let values = c.args.values.now in
    let i = c.loop-value.value-index in
    let p = c.args.property in
    let row = c.args.row in
    let ordinal = c.loop-value.ordinal in
    let step = passages_step values i c.value-item.result p c.loop-value-test.true c.value-item.is in (
      given.gathered,
      given.order,
      λ t. given.added t (map text_tokens (texts_in (drop (i + 1) values) p))
          ∙ ap (λ l. found (get_by_text c.loop-value.ids) c.loop-value.lists t ++ passage_postings row ordinal t l) step ∙ held.2 t,
      given.lengths (map text_tokens (texts_in (drop (i + 1) values) p)) ∙ ap (λ l. c.loop-value.lengths ++ passage_lengths row ordinal l) step ∙ held.3,
      others_trans _ (get_by_text c.loop-value.ids) _ _ c.loop-value.lists _ held.4 given.others,
    )

pub returns-clause-order : goal.returns-clause-order
returns-clause-order c = λ t. follows_row c.args.row c.loop-value.ordinal 0 (found (get_by_text c.loop-value.ids) c.loop-value.lists t) (c.loop-value.invariant.1 t)

pub returns-clause-added : goal.returns-clause-added
returns-clause-added c = λ t.
    postings_end c.args.row c.loop-value.ordinal c.loop-value.value-index t c.args.values.now c.args.property (found (get_by_text c.loop-value.ids) c.loop-value.lists t) _
    c.loop-value-test.false (c.loop-value.invariant.2 t)
    ∙ postings_start c.args.row t c.args.values.now c.args.property (found (get_by_text c.args.ids.now) c.args.lists.now t)

pub returns-clause-lengths : goal.returns-clause-lengths
returns-clause-lengths c =
    lengths_end c.args.row c.loop-value.ordinal c.loop-value.value-index c.args.values.now c.args.property c.loop-value.lengths _ c.loop-value-test.false c.loop-value.invariant.3
    ∙ ap (λ l. c.args.lengths.now ++ passage_lengths c.args.row 0 l) (sym (passages_texts c.args.values.now c.args.property))
