use Rattle.std.proofs.Common.{◌++◌, refl, sym, ap, subst, ◌∙◌}
use Rattle.std.specs.HashMap.{get_by_text}
use Rattle.std.specs.List.{AllPass}
use Rattle.sq_coded.specs.Coded.{may_follow}
use Rattle.sq_build.specs.Words.{is_short_value}
use Rattle.sq_model.specs.Passages.{passages}
use Rattle.sq_postings.specs.Occurrences.{posting, passage_postings, postings_from}
use Rattle.sq_build.specs.Gathered.{found}
use Rattle.sq_build.specs.Lengths.{passage_lengths}
use Rattle.sq_build.proofs.GatherLemmas.{others_refl, others_trans}
use Rattle.sq_build.proofs.ValueLemmas.{item_postings, item_lengths, items_end, item_lengths_end, short_item}
use Rattle.sq_build.proofs.passages.add_items.Goals as goal

pub loop-row-preserved : goal.loop-row-preserved
loop-row-preserved c =
    let given = c.in_ok-add_values.ensures in
    let i = c.loop-row.row in
    let items = c.args.items.now in
    let item = c.index-items-row.result in
    let p = c.args.property in (
      given.gathered,
      given.order,
      λ t. item_postings items i item p c.loop-row-test.true c.index-items-row.is t (found (get_by_text c.loop-row.ids) c.loop-row.lists t) _ _
          (given.added t ∙ ap (λ v. found (get_by_text c.loop-row.ids) c.loop-row.lists t ++ passage_postings i 0 t (passages v p)) c.as_slice-values.ensures)
          (c.loop-row.invariant.2 t),
      item_lengths items i item p c.loop-row-test.true c.index-items-row.is c.loop-row.lengths _ _
          (given.lengths ∙ ap (λ v. c.loop-row.lengths ++ passage_lengths i 0 (passages v p)) c.as_slice-values.ensures)
          c.loop-row.invariant.3,
      others_trans _ (get_by_text c.loop-row.ids) _ _ c.loop-row.lists _ c.loop-row.invariant.4 given.others,
    )

pub add_values-requires-clause-short : goal.add_values-requires-clause-short
add_values-requires-clause-short c =
    subst (AllPass is_short_value) (sym c.as_slice-values.ensures)
    (short_item c.args.items.now c.loop-row.row c.index-items-row.result c.requires.short c.loop-row-test.true c.index-items-row.is)

pub loop-row-init : goal.loop-row-init
loop-row-init c = (
  c.requires.gathered,
  λ t. ap (λ l. may_follow l (posting 0 0 0)) (c.requires.empty t),
  λ t. ap (λ l. l ++ postings_from 0 c.args.property t c.args.items.now) (c.requires.empty t),
  refl,
  others_refl (get_by_text c.args.ids.now) c.args.lists.now,
)

pub returns-clause-added : goal.returns-clause-added
returns-clause-added c = λ t.
    items_end c.loop-row.row c.args.property t c.args.items.now (found (get_by_text c.loop-row.ids) c.loop-row.lists t) _ c.loop-row-test.false (c.loop-row.invariant.2 t)

pub returns-clause-lengths : goal.returns-clause-lengths
returns-clause-lengths c =
    item_lengths_end c.loop-row.row c.args.property c.args.items.now c.loop-row.lengths _ c.loop-row-test.false c.loop-row.invariant.3
