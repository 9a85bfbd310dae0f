use Rattle.std.proofs.Common.{rules, ◌≡◌, ◌+◌, ◌<◌, ◌≤◌, true, false, map, drop, length, sym, ap, ◌∙◌, arith, SFits, w64, to_z, to_z-of_z}
use Rattle.std.specs.Prelude.{is_some, ◌+ℤ◌}
use Rattle.std.proofs.lemmas.Grind.{elements}
use Rattle.std.proofs.Math.ListN.{set}
use Rattle.sq_nodes.specs.Scores.{node_score, node_rest, all_from, some_from, added, saturated}
use Rattle.sq_nodes.proofs.PartLemmas as parts
use Rattle.sq_nodes.proofs.node.Node.+score.Goals as goal

pub all_score-loop-i-preserved : goal.all_score-loop-i-preserved
all_score-loop-i-preserved g t c =
    let items = c.loop-i.parts.items in
    let firsts = c.args.parts.now.items in
    let i = c.loop-i.i in
    let part = c.index_mut.result.now in
    let next = c.score.new.self in
    let within : i < length items = omega (arith, c.loop-i.invariant.unvisited.0, c.len-i-end.ensures) in
    let fits : SFits w64 c.sum_of-total.result = search rules in
    let fitted : SFits w64 c.in_ok-boost.boost = search rules in
    record {
      unvisited = grind (arith, elements);
      now = ap (λ total. all_from total (map (λ node. node_score node c.args.row) (drop (i + 1) (set items i next)))) (to_z-of_z fits ∙ c.sum_of-total.ensures ∙ ap (λ boost. saturated (to_z w64 c.loop-i.total-bits +ℤ boost)) (to_z-of_z fitted))
          ∙ parts.all_next (λ node. node_score node c.args.row) items i part next _ c.in_ok-boost.boost _ within c.index_mut.ensures.value (sym c.in_ok-boost.ensures.value) c.loop-i.invariant.now;
      later = λ r l. parts.kept_part (λ node. node_score node r) items firsts i part next c.index_mut.ensures.value (c.score.ensures.later r l) (c.loop-i.invariant.later r l);
      cost = parts.cost_sum node_rest items i part next c.loop-i.steps c.score.new.steps _ within c.index_mut.ensures.value c.score.ensures.cost c.loop-i.invariant.cost;
    }

pub all_score-returns-in_err-boost-clause-value : goal.all_score-returns-in_err-boost-clause-value
all_score-returns-in_err-boost-clause-value g t c =
    let items = c.loop-i.parts.items in
    let within : c.loop-i.i < length items = omega (arith, c.loop-i.invariant.unvisited.0, c.len-i-end.ensures) in
    c.from_residual.ensures
    ∙ parts.all_stop (λ node. node_score node c.args.row) items c.loop-i.i c.index_mut.result.now _ _ within c.index_mut.ensures.value (sym c.in_err-boost.ensures.value) c.loop-i.invariant.now
    ∙ parts.all_of node_score c.args.parts.now.items c.args.row

pub all_score-returns-in_err-boost-clause-later : goal.all_score-returns-in_err-boost-clause-later
all_score-returns-in_err-boost-clause-later g t c = λ r l.
    let items = c.loop-i.parts.items in
    let firsts = c.args.parts.now.items in
    let next = c.score.new.self in
    parts.all_same node_score (set items c.loop-i.i next) firsts r
    (parts.kept_part (λ node. node_score node r) items firsts c.loop-i.i c.index_mut.result.now next c.index_mut.ensures.value (c.score.ensures.later r l) (c.loop-i.invariant.later r l))

pub all_score-returns-in_err-boost-clause-cost : goal.all_score-returns-in_err-boost-clause-cost
all_score-returns-in_err-boost-clause-cost g t c =
    let items = c.loop-i.parts.items in
    let within : c.loop-i.i < length items = omega (arith, c.loop-i.invariant.unvisited.0, c.len-i-end.ensures) in
    parts.cost_sum node_rest items c.loop-i.i c.index_mut.result.now c.score.new.self c.loop-i.steps c.score.new.steps _ within
    c.index_mut.ensures.value c.score.ensures.cost c.loop-i.invariant.cost

pub all_score-returns-clause-value : goal.all_score-returns-clause-value
all_score-returns-clause-value g t c =
    let items = c.loop-i.parts.items in
    let all : length items ≤ c.loop-i.i = omega (arith, c.loop-i.invariant.unvisited.0, c.len-i-end.ensures) in
    parts.all_end (λ node. node_score node c.args.row) items c.loop-i.i _ _ all c.loop-i.invariant.now ∙ parts.all_of node_score c.args.parts.now.items c.args.row

pub all_score-returns-clause-later : goal.all_score-returns-clause-later
all_score-returns-clause-later g t c = λ r l. parts.all_same node_score c.loop-i.parts.items c.args.parts.now.items r (c.loop-i.invariant.later r l)

pub some_score-loop-i-preserved : goal.some_score-loop-i-preserved
some_score-loop-i-preserved g t c =
    let items = c.loop-i.parts.items in
    let firsts = c.args.parts.now.items in
    let i = c.loop-i.i in
    let part = c.index_mut.result.now in
    let next = c.score.new.self in
    let within : i < length items = omega (arith, c.loop-i.invariant.unvisited.0, c.len-i-end.ensures) in
    record {
      unvisited = grind (arith, elements);
      now = ap (λ total. some_from total (map (λ node. node_score node c.args.row) (drop (i + 1) (set items i next)))) (c.added-total.ensures ∙ ap (added c.loop-i.total) c.score.ensures.value)
          ∙ parts.some_next (λ node. node_score node c.args.row) items i part next c.loop-i.total _ within c.index_mut.ensures.value c.loop-i.invariant.now;
      later = λ r l. parts.kept_part (λ node. node_score node r) items firsts i part next c.index_mut.ensures.value (c.score.ensures.later r l) (c.loop-i.invariant.later r l);
      cost = parts.cost_sum node_rest items i part next c.loop-i.steps c.score.new.steps _ within c.index_mut.ensures.value c.score.ensures.cost c.loop-i.invariant.cost;
    }

pub some_score-returns-clause-value : goal.some_score-returns-clause-value
some_score-returns-clause-value g t c =
    let items = c.loop-i.parts.items in
    let all : length items ≤ c.loop-i.i = omega (arith, c.loop-i.invariant.unvisited.0, c.len-i-end.ensures) in
    parts.some_end (λ node. node_score node c.args.row) items c.loop-i.i c.loop-i.total _ all c.loop-i.invariant.now ∙ parts.some_of node_score c.args.parts.now.items c.args.row

pub some_score-returns-clause-later : goal.some_score-returns-clause-later
some_score-returns-clause-later g t c = λ r l. parts.some_same node_score c.loop-i.parts.items c.args.parts.now.items r (c.loop-i.invariant.later r l)

pub some_holds-loop-i-preserved : goal.some_holds-loop-i-preserved
some_holds-loop-i-preserved g t c =
    let items = c.loop-i.parts.items in
    let firsts = c.args.parts.now.items in
    let i = c.loop-i.i in
    let part = c.index_mut.result.now in
    let next = c.score.new.self in
    let within : i < length items = omega (arith, c.loop-i.invariant.unvisited.0, c.len-i-end.ensures) in
    let fails : is_some (node_score part c.args.row) ≡ false = ap is_some (sym c.score.ensures.value) ∙ sym c.is_some.ensures ∙ c.if-is_some.false in
    record {
      unvisited = grind (arith, elements);
      now = parts.any_next (λ node. is_some (node_score node c.args.row)) items i part next _ within c.index_mut.ensures.value fails c.loop-i.invariant.now;
      later = λ r l. parts.kept_part (λ node. node_score node r) items firsts i part next c.index_mut.ensures.value (c.score.ensures.later r l) (c.loop-i.invariant.later r l);
      cost = parts.cost_sum node_rest items i part next c.loop-i.steps c.score.new.steps _ within c.index_mut.ensures.value c.score.ensures.cost c.loop-i.invariant.cost;
    }

pub some_holds-returns-then-is_some-clause-value : goal.some_holds-returns-then-is_some-clause-value
some_holds-returns-then-is_some-clause-value g t c =
    let items = c.loop-i.parts.items in
    let part = c.index_mut.result.now in
    let within : c.loop-i.i < length items = omega (arith, c.loop-i.invariant.unvisited.0, c.len-i-end.ensures) in
    let has : is_some (node_score part c.args.row) ≡ true = ap is_some (sym c.score.ensures.value) ∙ sym c.is_some.ensures ∙ c.if-is_some.true in
    parts.any_stop (λ node. is_some (node_score node c.args.row)) items c.loop-i.i part _ within c.index_mut.ensures.value has c.loop-i.invariant.now
    ∙ parts.holds_of node_score c.args.parts.now.items c.args.row

pub some_holds-returns-then-is_some-clause-later : goal.some_holds-returns-then-is_some-clause-later
some_holds-returns-then-is_some-clause-later g t c = λ r l.
    let items = c.loop-i.parts.items in
    let firsts = c.args.parts.now.items in
    let next = c.score.new.self in
    parts.holds_same node_score (set items c.loop-i.i next) firsts r
    (parts.kept_part (λ node. node_score node r) items firsts c.loop-i.i c.index_mut.result.now next c.index_mut.ensures.value (c.score.ensures.later r l) (c.loop-i.invariant.later r l))

pub some_holds-returns-then-is_some-clause-cost : goal.some_holds-returns-then-is_some-clause-cost
some_holds-returns-then-is_some-clause-cost g t c =
    let items = c.loop-i.parts.items in
    let within : c.loop-i.i < length items = omega (arith, c.loop-i.invariant.unvisited.0, c.len-i-end.ensures) in
    parts.cost_sum node_rest items c.loop-i.i c.index_mut.result.now c.score.new.self c.loop-i.steps c.score.new.steps _ within
    c.index_mut.ensures.value c.score.ensures.cost c.loop-i.invariant.cost

pub some_holds-returns-clause-value : goal.some_holds-returns-clause-value
some_holds-returns-clause-value g t c =
    let items = c.loop-i.parts.items in
    let all : length items ≤ c.loop-i.i = omega (arith, c.loop-i.invariant.unvisited.0, c.len-i-end.ensures) in
    parts.any_end (λ node. is_some (node_score node c.args.row)) items c.loop-i.i _ all c.loop-i.invariant.now ∙ parts.holds_of node_score c.args.parts.now.items c.args.row

pub some_holds-returns-clause-later : goal.some_holds-returns-clause-later
some_holds-returns-clause-later g t c = λ r l. parts.holds_same node_score c.loop-i.parts.items c.args.parts.now.items r (c.loop-i.invariant.later r l)
