use Rattle.std.proofs.Common.{◌≡◌, cond, [], ◌∷◌, ◌++◌, get_or, sym, ap, ◌∙◌, subst}
use Rattle.std.proofs.lemmas.List.{length-set}
use Rattle.std.specs.HashMap.{get_by_text}
use Rattle.std.specs.Str.{bytes_eq}
use Rattle.sq_coded.specs.Coded.{may_follow}
use Rattle.sq_build.specs.Gathered.{IsGathered, found, list_under}
use Rattle.sq_build.proofs.GatherLemmas.{added, others_added, others_trans}
use Rattle.sq_build.proofs.gather.add_token.Goals as goal

pub push-requires-clause-list : goal.push-requires-clause-list
push-requires-clause-list c = c.in_ok-id.ensures.gathered.below c.args.text.now c.in_ok-id.id c.in_ok-id.ensures.number

pub push-requires-clause-order : goal.push-requires-clause-order
push-requires-clause-order c =
    let here : get_or c.list_of.new.lists c.in_ok-id.id [] ≡ found (get_by_text c.args.ids.now) c.args.lists.now c.args.text.now =
    ap (list_under c.list_of.new.lists) (sym c.in_ok-id.ensures.number) ∙ c.in_ok-id.ensures.same c.args.text.now in
    ap (λ l. may_follow l c.args.posting) here ∙ c.requires.order

pub returns-clause-gathered : goal.returns-clause-gathered
returns-clause-gathered c =
    rw c.in_ok-push.ensures.ok (subst (IsGathered (get_by_text c.list_of.new.ids)) (sym (length-set c.list_of.new.lists c.in_ok-id.id _)) c.in_ok-id.ensures.gathered)

pub returns-clause-added : goal.returns-clause-added
returns-clause-added c =
    λ t. rw c.in_ok-push.ensures.ok (added (get_by_text c.list_of.new.ids) c.args.text.now c.list_of.new.lists c.in_ok-id.id c.args.posting c.in_ok-id.ensures.gathered c.in_ok-id.ensures.number t
    ∙ ap (λ l. l ++ cond (bytes_eq c.args.text.now t) (c.args.posting ∷ []) []) (c.in_ok-id.ensures.same t))

pub returns-clause-others : goal.returns-clause-others
returns-clause-others c =
    rw c.in_ok-push.ensures.ok (others_trans (get_by_text c.args.ids.now) (get_by_text c.list_of.new.ids) (get_by_text c.list_of.new.ids) c.args.lists.now c.list_of.new.lists _
    c.in_ok-id.ensures.others (others_added (get_by_text c.list_of.new.ids) c.args.text.now c.list_of.new.lists c.in_ok-id.id c.args.posting c.in_ok-id.ensures.gathered c.in_ok-id.ensures.number))
