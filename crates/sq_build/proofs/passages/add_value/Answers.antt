use Rattle.std.proofs.Common.{◌++◌, ◌∙◌, ap}
use Rattle.std.specs.HashMap.{get_by_text}
use Rattle.sq_postings.specs.Occurrences.{posting, passage_postings}
use Rattle.sq_coded.specs.Coded.{may_follow}
use Rattle.sq_build.specs.Gathered.{found}
use Rattle.sq_build.specs.Lengths.{passage_lengths}
use Rattle.sq_build.proofs.ValueLemmas.{none_added, postings_added, lengths_added}
use Rattle.sq_build.proofs.passages.add_value.Goals as goal

pub returns-in_default-clause-added : goal.returns-in_default-clause-added
returns-in_default-clause-added c = λ t rest.
    ap (λ l. found (get_by_text c.args.ids.now) c.args.lists.now t ++ passage_postings c.args.row c.args.ordinal t l) (none_added c.args.property c.args.value.now rest c.in_default.ensures.value)

pub returns-in_default-clause-lengths : goal.returns-in_default-clause-lengths
returns-in_default-clause-lengths c = λ rest.
    ap (λ l. c.args.lengths.now ++ passage_lengths c.args.row c.args.ordinal l) (none_added c.args.property c.args.value.now rest c.in_default.ensures.value)

pub returns-clause-order : goal.returns-clause-order
returns-clause-order c = λ t.
    ap (λ o. may_follow (found (get_by_text c.add_passage.new.ids) c.add_passage.new.lists t) (posting c.args.row o 0)) c.in_ok-next.ensures ∙ c.in_ok-add_passage.ensures.order t

pub returns-clause-added : goal.returns-clause-added
returns-clause-added c = λ t rest.
    postings_added c.args.row c.args.ordinal c.in_ok-next.next c.args.property c.args.value.now t c.in-Some.text.now c.in_ok-tokens.tokens
    (found (get_by_text c.args.ids.now) c.args.lists.now t) (found (get_by_text c.add_passage.new.ids) c.add_passage.new.lists t) rest
    c.in-Some.ensures.value c.in_ok-tokens.ensures c.in_ok-next.ensures (c.in_ok-add_passage.ensures.added t)

pub returns-clause-lengths : goal.returns-clause-lengths
returns-clause-lengths c = λ rest.
    lengths_added c.args.row c.args.ordinal c.in_ok-next.next c.args.property c.args.value.now c.in-Some.text.now c.in_ok-tokens.tokens
    c.args.lengths.now c.push_length.new.lengths rest c.in-Some.ensures.value c.in_ok-tokens.ensures c.in_ok-next.ensures c.in_ok-push_length.ensures
