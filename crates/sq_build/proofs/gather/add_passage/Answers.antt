use Rattle.std.proofs.Common.{◌+◌, ◌≤◌, length, ap, ◌∙◌, arith}
use Rattle.std.specs.HashMap.{get_by_text}
use Rattle.std.specs.Str.{bytes_eq}
use Rattle.sq_coded.specs.Coded.{may_follow}
use Rattle.sq_postings.specs.Occurrences.{posting}
use Rattle.sq_build.specs.Gathered.{found}
use Rattle.sq_build.proofs.GatherLemmas.{others_trans, follows_added, follows_later, place_before, ordinal_before}
use Rattle.sq_build.proofs.PassageLemmas.{passage_turn, passage_end}
use Rattle.sq_build.proofs.gather.add_passage.Goals as goal

pub tokens-preserved : goal.tokens-preserved
tokens-preserved c =
    let row = c.args.row in
    let ordinal = c.args.ordinal in
    let place = c.tokens.place in
    let text = c.text.result.now in
    let given = c.in_ok-add_token.ensures in (
      given.gathered,
      λ t. ap (λ l. may_follow l (posting row ordinal (place + 1))) (given.added t)
          ∙ follows_added c.follows_last.ensures (found (get_by_text c.tokens.ids) c.tokens.lists t) (posting row ordinal place) (posting row ordinal (place + 1)) (bytes_eq text t)
          (c.tokens.invariant.1 t) (place_before row ordinal place),
      λ t. passage_turn row ordinal place text t c.args.tokens.now (found (get_by_text c.tokens.ids) c.tokens.lists t) _ _ c.text.ensures (given.added t) (c.tokens.invariant.2 t),
      others_trans _ (get_by_text c.tokens.ids) _ _ c.tokens.lists _ c.tokens.invariant.3 given.others,
    )

pub returns-clause-order : goal.returns-clause-order
returns-clause-order c =
    λ t. follows_later (found (get_by_text c.tokens.ids) c.tokens.lists t) (posting c.args.row c.args.ordinal c.tokens.place) (posting c.args.row (c.args.ordinal + 1) 0)
    (c.tokens.invariant.1 t) (ordinal_before c.args.row c.args.ordinal c.tokens.place)

pub returns-clause-added : goal.returns-clause-added
returns-clause-added c =
    let past : length c.args.tokens.now ≤ c.tokens.place = omega arith in
    λ t. passage_end c.args.row c.args.ordinal c.tokens.place t c.args.tokens.now (found (get_by_text c.tokens.ids) c.tokens.lists t) _ past (c.tokens.invariant.2 t)
