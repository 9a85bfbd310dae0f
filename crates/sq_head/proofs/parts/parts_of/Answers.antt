use Rattle.std.proofs.Common.{rules, ◌≡◌, ◌≤◌, length, arith, length-drop}
use Rattle.sq_head.proofs.ParseLemmas.{partial_head, refused_head, early_head, whole_head, few_fields}
use Rattle.sq_head.proofs.parts.parts_of.Goals as goal

pub returns-then-spans-head-clause-head : goal.returns-then-spans-head-clause-head
returns-then-spans-head-clause-head c =
    let room : length c.parse_request.new.headers ≤ 64 = search (rules, c.parse_request.auto.headers) in
    whole_head _ _ _ (rw c.in-Ok-Complete.field-0-is at c.in-Ok-Complete.ensures.complete) c.if-spans-head.true (few_fields _ _ _ (rw c.in-Ok-Complete.field-0-is at c.in-Ok-Complete.ensures.complete) room)

pub returns-else-spans-head-clause-head : goal.returns-else-spans-head-clause-head
returns-else-spans-head-clause-head c =
    early_head _ _ _ (rw c.in-Ok-Complete.field-0-is at c.in-Ok-Complete.ensures.complete)
    (λ none. omega (arith, none, length-drop c.in-Ok-Complete.spans.len c.args.head.now, (rw c.in-Ok-Complete.field-0-is at c.in-Ok-Complete.ensures.within).section.len_fits, c.if-spans-head.false))

pub returns-in-Ok-Partial-clause-head : goal.returns-in-Ok-Partial-clause-head
returns-in-Ok-Partial-clause-head c = partial_head _ (rw c.in-Ok-Partial.field-0-is at c.in-Ok-Partial.ensures.partial)

pub returns-in-Err-clause-head : goal.returns-in-Err-clause-head
returns-in-Err-clause-head c = refused_head _ (let room : length c.args.headers.now ≡ 64 = search rules in rw room at c.in-Err.ensures.no_room)
