use Rattle.std.proofs.Common.{◌<◌, ◌≤◌, map, length, sym, ap, subst, ◌∙◌, arith}
use Rattle.std.specs.Prelude.{IfSome, is_some}
use Rattle.std.proofs.lemmas.Grind.{elements}
use Rattle.std.proofs.Math.ListN.{set}
use Rattle.sq_nodes.specs.Leaves.{IsBefore, plain, spans_score, count_score, edge_score, within_score}
use Rattle.sq_nodes.specs.Scores.{node_score, node_rest, without_score, ranked_score, all_scores, some_scores}
use Rattle.sq_nodes.proofs.NodeLemmas as nodes
use Rattle.sq_nodes.proofs.PartLemmas as parts
use Rattle.sq_nodes.proofs.PartLemmas.{fails}
use Rattle.sq_nodes.proofs.node.Node.+skip.Goals as goal

pub skip_to-returns-in-Spans-clause-none : goal.skip_to-returns-in-Spans-clause-none
skip_to-returns-in-Spans-clause-none g t c = λ r l b.
    ap (λ node. node_score node r) c.in-Spans.is ∙ nodes.score-Spans r c.in-Spans.streams ∙ ap (λ streams. spans_score streams.items r) (sym c.in-Spans.streams-is) ∙ c.spans_skip.ensures.none r l b

pub skip_to-returns-in-Count-clause-none : goal.skip_to-returns-in-Count-clause-none
skip_to-returns-in-Count-clause-none g t c = λ r l b.
    ap (λ node. node_score node r) c.in-Count.is ∙ nodes.score-Count r c.in-Count.counted ∙ ap (λ counted. count_score counted r) (sym c.in-Count.counted-is) ∙ c.count_skip.ensures.none r l b

pub skip_to-returns-in-Edge-clause-none : goal.skip_to-returns-in-Edge-clause-none
skip_to-returns-in-Edge-clause-none g t c = λ r l b.
    ap (λ node. node_score node r) c.in-Edge.is ∙ nodes.score-Edge r c.in-Edge.edges ∙ ap (λ edges. edge_score edges r) (sym c.in-Edge.edges-is) ∙ c.edge_skip.ensures.none r l b

pub skip_to-returns-in-Within-clause-none : goal.skip_to-returns-in-Within-clause-none
skip_to-returns-in-Within-clause-none g t c = λ r l b.
    ap (λ node. node_score node r) c.in-Within.is ∙ nodes.score-Within r c.in-Within.ranged ∙ ap (λ ranged. within_score ranged r) (sym c.in-Within.ranged-is) ∙ c.within_skip.ensures.none r l b

pub skip_to-returns-in-And-clause-none : goal.skip_to-returns-in-And-clause-none
skip_to-returns-in-And-clause-none g t c = λ r l b.
    ap (λ node. node_score node r) c.in-And.is ∙ nodes.score-And r c.in-And.parts ∙ ap (λ parts. all_scores (map node_score parts.items) r) (sym c.in-And.parts-is) ∙ c.all_skip.ensures.none r l b

pub skip_to-returns-in-Or-clause-none : goal.skip_to-returns-in-Or-clause-none
skip_to-returns-in-Or-clause-none g t c = λ r l b.
    ap (λ node. node_score node r) c.in-Or.is ∙ nodes.score-Or r c.in-Or.parts ∙ ap (λ parts. some_scores (map node_score parts.items) r) (sym c.in-Or.parts-is) ∙ c.some_skip.ensures.none r l b

pub skip_to-returns-in-AndNot-clause-none : goal.skip_to-returns-in-AndNot-clause-none
skip_to-returns-in-AndNot-clause-none g t c = λ r l b.
    ap (λ node. node_score node r) c.in-AndNot.is ∙ nodes.score-AndNot r c.in-AndNot.without ∙ ap (λ without. without_score without r) (sym c.in-AndNot.without-is) ∙ c.without_skip.ensures.none r l b

pub skip_to-returns-in-Filter-clause-none : goal.skip_to-returns-in-Filter-clause-none
skip_to-returns-in-Filter-clause-none g t c = λ r l b.
    ap (λ node. node_score node r) c.in-Filter.is ∙ nodes.score-Filter r c.in-Filter.inner ∙ ap (λ inner. plain (is_some (node_score inner.value r))) (sym c.in-Filter.inner-is) ∙ ap (λ score. plain (is_some score)) (c.filter_skip.ensures.none r l b)

pub skip_to-returns-in-Xrank-clause-none : goal.skip_to-returns-in-Xrank-clause-none
skip_to-returns-in-Xrank-clause-none g t c = λ r l b.
    ap (λ node. node_score node r) c.in-Xrank.is ∙ nodes.score-Xrank r c.in-Xrank.ranked ∙ ap (λ ranked. ranked_score ranked r) (sym c.in-Xrank.ranked-is) ∙ c.ranked_skip.ensures.none r l b

pub all_skip-loop-i-preserved : goal.all_skip-loop-i-preserved
all_skip-loop-i-preserved g t c =
    let items = c.loop-i.parts.items in
    let firsts = c.args.parts.now.items in
    let i = c.loop-i.i in
    let to = c.loop-i.to in
    let part = c.index_mut.result.now in
    let next = c.skip_to.new.self in
    let within : i < length items = omega (arith, c.loop-i.invariant.unvisited.0, c.len-i-end.ensures) in
    let ahead : to ≤ c.in_ok-to.to = c.in_ok-to.ensures.forward in
    record {
      unvisited = grind (arith, elements);
      forward = omega (arith, c.loop-i.invariant.forward, ahead);
      later = λ r l. parts.kept_part (λ node. node_score node r) items firsts i part next c.index_mut.ensures.value
          (c.skip_to.ensures.later r (omega (arith, ahead))) (c.loop-i.invariant.later r (omega (arith, ahead)));
      passed = λ r l b. parts.passed_more (λ node. node_score node r) items i next to r within (c.loop-i.invariant.passed r l)
          (λ k. c.skip_to.ensures.later r k ∙ c.in_ok-to.ensures.none r k b);
      failed = λ r l b. parts.failed_more (λ node. node_score node r) items firsts i part to r within c.index_mut.ensures.value (c.loop-i.invariant.failed r l)
          (λ k. (c.in_ok-to.ensures.none r k b, c.loop-i.invariant.later r k));
      cost = parts.cost_sum node_rest items i part next c.loop-i.steps c.skip_to.new.steps _ within c.index_mut.ensures.value c.skip_to.ensures.cost c.loop-i.invariant.cost;
    }

pub all_skip-returns-in_err-to-clause-none : goal.all_skip-returns-in_err-to-clause-none
all_skip-returns-in_err-to-clause-none g t c = λ r l b.
    let items = c.loop-i.parts.items in
    let firsts = c.args.parts.now.items in
    let within : c.loop-i.i < length items = omega (arith, c.loop-i.invariant.unvisited.0, c.len-i-end.ensures) in
    parts.all_none node_score firsts r
    (parts.failed_more (λ node. node_score node r) items firsts c.loop-i.i c.index_mut.result.now c.loop-i.to r within c.index_mut.ensures.value (c.loop-i.invariant.failed r l)
    (λ k. (c.in_err-to.ensures.none r k tt, c.loop-i.invariant.later r k)))

pub all_skip-returns-in_err-to-clause-later : goal.all_skip-returns-in_err-to-clause-later
all_skip-returns-in_err-to-clause-later g t c = λ r l.
    let items = c.loop-i.parts.items in
    let firsts = c.args.parts.now.items in
    let next = c.skip_to.new.self in
    parts.later_all node_score (set items c.loop-i.i next) firsts c.loop-i.to r
    (λ b. parts.taken_kept (λ node. fails (node_score node r)) items c.loop-i.i next (c.loop-i.invariant.passed r l b))
    (c.loop-i.invariant.failed r l)
    (λ k. parts.kept_part (λ node. node_score node r) items firsts c.loop-i.i c.index_mut.result.now next c.index_mut.ensures.value
    (c.skip_to.ensures.later r k) (c.loop-i.invariant.later r k))

pub all_skip-returns-in_err-to-clause-cost : goal.all_skip-returns-in_err-to-clause-cost
all_skip-returns-in_err-to-clause-cost g t c =
    let items = c.loop-i.parts.items in
    let within : c.loop-i.i < length items = omega (arith, c.loop-i.invariant.unvisited.0, c.len-i-end.ensures) in
    parts.cost_sum node_rest items c.loop-i.i c.index_mut.result.now c.skip_to.new.self c.loop-i.steps c.skip_to.new.steps _ within
    c.index_mut.ensures.value c.skip_to.ensures.cost c.loop-i.invariant.cost

pub all_skip-returns-clause-none : goal.all_skip-returns-clause-none
all_skip-returns-clause-none g t c = λ r l b. parts.all_none node_score c.args.parts.now.items r (c.loop-i.invariant.failed r l b)

pub all_skip-returns-clause-later : goal.all_skip-returns-clause-later
all_skip-returns-clause-later g t c = λ r l.
    parts.later_all node_score c.loop-i.parts.items c.args.parts.now.items c.loop-i.to r
    (λ b. parts.some_taken (λ node. fails (node_score node r)) c.loop-i.parts.items c.loop-i.i (c.loop-i.invariant.passed r l b))
    (c.loop-i.invariant.failed r l) (c.loop-i.invariant.later r)

pub some_skip-loop-i-preserved : goal.some_skip-loop-i-preserved
some_skip-loop-i-preserved g t c =
    let items = c.loop-i.parts.items in
    let firsts = c.args.parts.now.items in
    let i = c.loop-i.i in
    let part = c.index_mut.result.now in
    let next = c.skip_to.new.self in
    let within : i < length items = omega (arith, c.loop-i.invariant.unvisited.0, c.len-i-end.ensures) in
    record {
      unvisited = grind (arith, elements);
      none = λ r l b.
          let both = subst (IsBefore r) c.earlier-next.ensures b in
          parts.none_more (λ node. is_some (node_score node r)) items i next within
          (ap is_some (c.skip_to.ensures.later r l ∙ c.skip_to.ensures.none r l (parts.before_second r c.loop-i.next c.skip_to.result both)))
          (c.loop-i.invariant.none r l (parts.before_first r c.loop-i.next c.skip_to.result both));
      forward = subst (λ at. IfSome at (λ to. c.args.row ≤ to)) (sym c.earlier-next.ensures)
          (parts.forward_both c.args.row c.loop-i.next c.skip_to.result c.loop-i.invariant.forward c.skip_to.ensures.forward);
      later = λ r l. parts.kept_part (λ node. node_score node r) items firsts i part next c.index_mut.ensures.value (c.skip_to.ensures.later r l) (c.loop-i.invariant.later r l);
      cost = parts.cost_sum node_rest items i part next c.loop-i.steps c.skip_to.new.steps _ within c.index_mut.ensures.value c.skip_to.ensures.cost c.loop-i.invariant.cost;
    }

pub some_skip-returns-clause-none : goal.some_skip-returns-clause-none
some_skip-returns-clause-none g t c = λ r l b.
    let items = c.loop-i.parts.items in
    let firsts = c.args.parts.now.items in
    let all : length items ≤ c.loop-i.i = omega (arith, c.loop-i.invariant.unvisited.0, c.len-i-end.ensures) in
    parts.some_same node_score firsts items r (sym (c.loop-i.invariant.later r l))
    ∙ parts.some_none node_score items r (parts.none_all (λ node. is_some (node_score node r)) items c.loop-i.i all (c.loop-i.invariant.none r l b))

pub some_skip-returns-clause-later : goal.some_skip-returns-clause-later
some_skip-returns-clause-later g t c = λ r l. parts.some_same node_score c.loop-i.parts.items c.args.parts.now.items r (c.loop-i.invariant.later r l)
