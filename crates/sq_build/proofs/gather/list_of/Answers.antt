use Rattle.std.proofs.Common.{sym}
use Rattle.std.specs.HashMap.{get_by_text}
use Rattle.sq_build.proofs.GatherLemmas.{gathered_more, number_more, same_more, others_more}
use Rattle.sq_build.proofs.gather.list_of.Goals as goal

pub returns-clause-gathered : goal.returns-clause-gathered
returns-clause-gathered c =
    rw c.in_ok-start.ensures.ok (gathered_more (get_by_text c.args.ids.now) (get_by_text c.name.new.ids) c.args.text.now c.args.lists.now c.in_ok-id.id c.requires
    (sym c.in_default.ensures) c.in_ok-id.ensures c.in_ok-name.ensures)

pub returns-clause-number : goal.returns-clause-number
returns-clause-number c =
    number_more (get_by_text c.args.ids.now) (get_by_text c.name.new.ids) c.args.text.now c.args.lists.now c.in_ok-id.id c.requires
    (sym c.in_default.ensures) c.in_ok-id.ensures c.in_ok-name.ensures

pub returns-clause-same : goal.returns-clause-same
returns-clause-same c =
    λ t. rw c.in_ok-start.ensures.ok (same_more (get_by_text c.args.ids.now) (get_by_text c.name.new.ids) c.args.text.now c.args.lists.now c.in_ok-id.id c.requires
    (sym c.in_default.ensures) c.in_ok-id.ensures c.in_ok-name.ensures t)

pub returns-clause-others : goal.returns-clause-others
returns-clause-others c =
    rw c.in_ok-start.ensures.ok (others_more (get_by_text c.args.ids.now) (get_by_text c.name.new.ids) c.args.text.now c.args.lists.now c.in_ok-id.id c.requires
    (sym c.in_default.ensures) c.in_ok-id.ensures c.in_ok-name.ensures)
