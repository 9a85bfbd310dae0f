use Rattle.std.proofs.Common.{map, subst, ap, ap₂, sym, ◌∙◌}
use Rattle.std.proofs.lemmas.Result.{IfOk-weaker}
use Rattle.std.specs.List.{All}
use Rattle.sq_model.specs.declared.kql.KTree.TheVariants as tree
use Rattle.sq_kql.specs.WellFormed.{nodes}
use Rattle.sq_typing.specs.Formed.{IsFormed, IsLiteral}
use Rattle.sq_typing.specs.Kql.{proximate}
use Rattle.sq_typing.specs.Together.{mapped, together, all_of}
use Rattle.sq_typing.proofs.FormedLemmas.{formed_words, formed_group, formed_left, formed_right, formed_or}
use Rattle.sq_typing.proofs.KqlEquations.{proximate_group, proximate_near, proximate_or}
use Rattle.sq_typing.proofs.NodeLemmas.{all_nodes, nodes_group, nodes_both, nodes_or, at_most_all, thrice_below, thrice_list, thrice_left, thrice_right, thrice_one, thrice_each}
use Rattle.sq_typing.proofs.TogetherLemmas.{step}
use Rattle.sq_typing.proofs.kql_near.+kql_near.Goals as goal

pub proximate-words_of-requires : goal.proximate-words_of-requires
proximate-words_of-requires t c = subst (All IsLiteral) (sym c.as_slice.ensures) (formed_words c.in-Words.at c.in-Words.pieces c.in-Words.is c.requires)

pub proximate-group_in-requires : goal.proximate-group_in-requires
proximate-group_in-requires t c = (
  (thrice_below _ _ _ (nodes_group c.get.result.now c.in-Group.at c.in-Group.inner c.in-Group.is c.get.ensures) c.decreases).0,
  subst IsFormed (sym c.get.ensures) (formed_group c.in-Group.at c.in-Group.inner c.in-Group.is c.requires),
)

pub proximate-near_in-requires : goal.proximate-near_in-requires
proximate-near_in-requires t c = (
  (thrice_below _ _ _ (nodes_both c.get-in-Near.result.now c.get-in-Near-2.result.now c.in-Near.at c.in-Near.left c.in-Near.right c.in-Near.n c.in-Near.ordered c.in-Near.is c.get-in-Near.ensures c.get-in-Near-2.ensures) c.decreases).1,
  (
    subst IsFormed (sym c.get-in-Near.ensures) (formed_left c.in-Near.at c.in-Near.left c.in-Near.right c.in-Near.n c.in-Near.ordered c.in-Near.is c.requires),
    subst IsFormed (sym c.get-in-Near-2.ensures) (formed_right c.in-Near.at c.in-Near.left c.in-Near.right c.in-Near.n c.in-Near.ordered c.in-Near.is c.requires),
  ),
)

pub group_in-proximate-requires : goal.group_in-proximate-requires
group_in-proximate-requires t c = (thrice_one (nodes c.args.inside.now) _ c.decreases, c.requires)

pub or_in-proximate_each-requires : goal.or_in-proximate_each-requires
or_in-proximate_each-requires t c = (thrice_each (all_nodes c.args.parts.now) _ c.decreases, c.requires)

pub near_in-proximate-first-requires : goal.near_in-proximate-first-requires
near_in-proximate-first-requires t c = ((thrice_left (nodes c.args.left.now) (nodes c.args.right.now) _ c.decreases).0, c.requires.0)

pub near_in-near_right-requires : goal.near_in-near_right-requires
near_in-near_right-requires t c = ((thrice_left (nodes c.args.left.now) (nodes c.args.right.now) _ c.decreases).1, (c.requires.1, c.proximate-first.ensures))

pub near_right-proximate-requires : goal.near_right-proximate-requires
near_right-proximate-requires t c = (thrice_right (nodes c.args.left.now) (nodes c.args.right.now) _ c.decreases, c.requires.0)

pub proximate-or_in-requires : goal.proximate-or_in-requires
proximate-or_in-requires t c = (
  (thrice_below _ _ _ (nodes_or c.as_slice-in-Or.result.now c.in-Or.at c.in-Or.parts c.in-Or.is c.as_slice-in-Or.ensures) c.decreases).1,
  subst (All IsFormed) (sym c.as_slice-in-Or.ensures) (formed_or c.in-Or.at c.in-Or.parts c.in-Or.is c.requires),
)

pub proximate_each-proximate-requires : goal.proximate_each-proximate-requires
proximate_each-proximate-requires t c = (
  thrice_list _ _ _ (at_most_all c.args.parts.now c.loop-part.part-index c.part-item.result c.loop-part-test.true c.part-item.is) c.decreases,
  subst IsFormed (sym c.part-item.is) (c.requires c.loop-part.part-index c.part-item.result c.loop-part-test.true),
)

pub proximate-returns-in-Group : goal.proximate-returns-in-Group
proximate-returns-in-Group t c =
    let here = proximate c.args.schema.now in
    IfOk-weaker c.group_in.result _ _ (λ typed e.
    e
    ∙ (ap (mapped tree.Group) (ap here c.get.ensures)
    ∙ (sym (proximate_group c.args.schema.now c.in-Group.at c.in-Group.inner) ∙ ap here (sym c.in-Group.is))))
    c.group_in.ensures

pub proximate-returns-in-Near : goal.proximate-returns-in-Near
proximate-returns-in-Near t c =
    let here = proximate c.args.schema.now in
    IfOk-weaker c.near_in.result _ _ (λ typed e.
    e
    ∙ (ap₂ (together (λ l r. tree.Near l r c.in-Near.n c.in-Near.ordered)) (ap here c.get-in-Near.ensures) (ap here c.get-in-Near-2.ensures)
    ∙ (sym (proximate_near c.args.schema.now c.in-Near.at c.in-Near.left c.in-Near.right c.in-Near.n c.in-Near.ordered) ∙ ap here (sym c.in-Near.is))))
    c.near_in.ensures

pub proximate-returns-in-Or : goal.proximate-returns-in-Or
proximate-returns-in-Or t c =
    let here = proximate c.args.schema.now in
    IfOk-weaker c.or_in.result _ _ (λ typed e.
    e
    ∙ (ap (mapped tree.Or) (ap (λ ps. all_of (map here ps)) c.as_slice-in-Or.ensures)
    ∙ (sym (proximate_or c.args.schema.now c.in-Or.at c.in-Or.parts) ∙ ap here (sym c.in-Or.is))))
    c.or_in.ensures

pub proximate_each-loop-part-preserved : goal.proximate_each-loop-part-preserved
proximate_each-loop-part-preserved t c =
    step (proximate c.args.schema.now) c.args.parts.now c.loop-part.part-index c.part-item.result c.loop-part.typed c.in_ok-next.next c.in_ok-typed.typed _
    c.loop-part-test.true c.part-item.is c.in_ok-next.ensures c.in_ok-typed.ensures c.loop-part.invariant
