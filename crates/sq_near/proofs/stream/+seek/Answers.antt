use Rattle.std.proofs.Common.{◌≡◌, ℕ, ◌+◌, ◌*◌, ◌<◌, ◌≤◌, rules, true, false, ◌∷◌, map, filter, length, Some, None, refl, sym, ap, ◌∙◌, subst, arith, option_map}
use Rattle.std.proofs.Math.Seq.{map-set_same}
use Rattle.std.proofs.lemmas.List.{length-map}
use Rattle.sq_cursor.specs.Spans.{is_passage_before, are_ordered, spans_from, first_passage}
use Rattle.sq_near.specs.Covers.{joined_spans, merged_spans}
use Rattle.sq_near.specs.Least.{ordered_least}
use Rattle.sq_model.specs.Lists.{joined}
use Rattle.sq_near.specs.Streams.{cover_span, stream_left, stream_rest, stream_depth, stream_ordered, joined_left, joined_ordered, merged_left, merged_ordered, spans_beyond, found_left, highest, joined_left-parts, merged_left-parts, joined_rest-parts, merged_rest-parts}
use Rattle.sq_near.specs.Moves.{furthest_from, is_here, is_after, is_given, passages_ahead, soonest_from}
use Rattle.sq_near.specs.declared.stream.Stream.TheViews.{roll-Joined, roll-Merged}
use Rattle.sq_near.proofs.PartLemmas.{moved_part, moved_parts, cost_part, same_length, part_depth}
use Rattle.sq_near.proofs.JoinLemmas as JoinLemmas
use Rattle.sq_near.proofs.TurnLemmas as TurnLemmas
use Rattle.sq_near.proofs.PassLemmas as PassLemmas
use Rattle.sq_near.proofs.FindLemmas as FindLemmas
use Rattle.sq_near.proofs.MergeLemmas as MergeLemmas
use Rattle.sq_near.proofs.stream.+seek.Goals as goal
use Rattle.sq_near.proofs.stream.+seek.Goals.{Stream::pass-then-not-stands-via-then-not-stands, Stream::pass-then-not-stands-via-else-not-stands+then-place-first}

-- ---- all parts, one after another

pub JoinedSpanCursor::seek_passage-returns-then-is_before-clause-left : goal.JoinedSpanCursor::seek_passage-returns-then-is_before-clause-left
JoinedSpanCursor::seek_passage-returns-then-is_before-clause-left g t c =
    let left = stream_left g.C.SpanCursor.left in
    let p : ℕ × ℕ = (c.args.passage.0, c.args.passage.1) in
    let j = c.args.self.now in
    let lists = map left j.parts.items in
    let spans = joined_spans j.width j.ordered lists in
    let before : joined_left g.C.SpanCursor.left j ≡ found_left (Some c.in-Some.cover) spans = joined_left-parts g.C.SpanCursor.left j ∙ ap (λ o. found_left o spans) c.in-Some.is in
    let is : is_passage_before (c.in-Some.cover.row, c.in-Some.cover.part) p ≡ true = cc in
    joined_left-parts g.C.SpanCursor.left _ ∙ c.find-self.ensures.left
    ∙ ap (λ ls. filter (is_after j.found) (joined_spans j.width j.ordered ls)) c.gather.ensures.left
    ∙ ap (filter (is_after j.found)) (TurnLemmas.joined_from j.width j.ordered p lists)
    ∙ ap (λ o. filter (is_after o) (spans_from p spans)) c.in-Some.is
    ∙ FindLemmas.seek_found p c.in-Some.cover spans is ∙ ap (spans_from p) (sym before)

pub JoinedSpanCursor::seek_passage-returns-then-is_before-clause-cost : goal.JoinedSpanCursor::seek_passage-returns-then-is_before-clause-cost
JoinedSpanCursor::seek_passage-returns-then-is_before-clause-cost g t c =
    let rest = g.C.SpanCursor.rest in
    let after = joined_rest-parts rest (roll-Joined g.row.C.Denot (record { parts = c.find-self.new.parts; width = c.args.self.now.width; ordered = c.args.self.now.ordered; found = c.find-self.result })) in
    omega (arith, c.find-self.ensures.cost, c.gather.ensures.cost, after, joined_rest-parts rest c.args.self.now)

pub JoinedSpanCursor::seek_passage-returns-else-is_before-clause-left : goal.JoinedSpanCursor::seek_passage-returns-else-is_before-clause-left
JoinedSpanCursor::seek_passage-returns-else-is_before-clause-left g t c =
    let left = stream_left g.C.SpanCursor.left in
    let p : ℕ × ℕ = (c.args.passage.0, c.args.passage.1) in
    let j = c.args.self.now in
    let spans = joined_spans j.width j.ordered (map left j.parts.items) in
    let before : joined_left g.C.SpanCursor.left j ≡ found_left (Some c.in-Some.cover) spans = joined_left-parts g.C.SpanCursor.left j ∙ ap (λ o. found_left o spans) c.in-Some.is in
    let is : is_passage_before (c.in-Some.cover.row, c.in-Some.cover.part) p ≡ false = cc in
    let ordered : are_ordered (found_left (Some c.in-Some.cover) spans) ≡ true = subst (λ xs. are_ordered xs ≡ true) before (joined_ordered g.C.SpanCursor.left j) in
    before ∙ sym (FindLemmas.from_here p c.in-Some.cover spans ordered is) ∙ ap (spans_from p) (sym before)

pub MergedSpanCursor::seek_passage-returns-then-is_before-clause-left : goal.MergedSpanCursor::seek_passage-returns-then-is_before-clause-left
MergedSpanCursor::seek_passage-returns-then-is_before-clause-left g t c =
    let left = stream_left g.C.SpanCursor.left in
    let p : ℕ × ℕ = (c.args.passage.0, c.args.passage.1) in
    let m = c.args.self.now in
    let lists = map left m.parts.items in
    let spans = merged_spans lists in
    let before : merged_left g.C.SpanCursor.left m ≡ found_left (Some c.in-Some.cover) spans = merged_left-parts g.C.SpanCursor.left m ∙ ap (λ o. found_left o spans) c.in-Some.is in
    let is : is_passage_before (c.in-Some.cover.row, c.in-Some.cover.part) p ≡ true = cc in
    merged_left-parts g.C.SpanCursor.left _ ∙ c.merge-self.ensures.left
    ∙ ap (λ ls. filter (is_after m.found) (merged_spans ls)) c.gather.ensures.left
    ∙ ap (filter (is_after m.found)) (MergeLemmas.merged_from p lists)
    ∙ ap (λ o. filter (is_after o) (spans_from p spans)) c.in-Some.is
    ∙ FindLemmas.seek_found p c.in-Some.cover spans is ∙ ap (spans_from p) (sym before)

pub MergedSpanCursor::seek_passage-returns-then-is_before-clause-cost : goal.MergedSpanCursor::seek_passage-returns-then-is_before-clause-cost
MergedSpanCursor::seek_passage-returns-then-is_before-clause-cost g t c =
    let rest = g.C.SpanCursor.rest in
    let after = merged_rest-parts rest (roll-Merged g.row.C.Denot (record { parts = c.merge-self.new.parts; found = c.merge-self.result })) in
    omega (arith, c.merge-self.ensures.cost, c.gather.ensures.cost, after, merged_rest-parts rest c.args.self.now)

pub MergedSpanCursor::seek_passage-returns-else-is_before-clause-left : goal.MergedSpanCursor::seek_passage-returns-else-is_before-clause-left
MergedSpanCursor::seek_passage-returns-else-is_before-clause-left g t c =
    let left = stream_left g.C.SpanCursor.left in
    let p : ℕ × ℕ = (c.args.passage.0, c.args.passage.1) in
    let m = c.args.self.now in
    let lists = map left m.parts.items in
    let spans = merged_spans lists in
    let before : merged_left g.C.SpanCursor.left m ≡ found_left (Some c.in-Some.cover) spans = merged_left-parts g.C.SpanCursor.left m ∙ ap (λ o. found_left o spans) c.in-Some.is in
    let is : is_passage_before (c.in-Some.cover.row, c.in-Some.cover.part) p ≡ false = cc in
    let ordered : are_ordered (found_left (Some c.in-Some.cover) spans) ≡ true = subst (λ xs. are_ordered xs ≡ true) before (merged_ordered g.C.SpanCursor.left m) in
    before ∙ sym (FindLemmas.from_here p c.in-Some.cover spans ordered is) ∙ ap (spans_from p) (sym before)

pub Stream::align-loop-next-init : goal.Stream::align-loop-next-init
Stream::align-loop-next-init g t c =
    let left = stream_left g.C.SpanCursor.left in
    record {
      keeps = λ width. JoinLemmas.keeps_same width c.args.ordered (map left c.args.parts.now.items);
      stands = c.furthest-next.ensures;
      depth = refl;
      cost = omega arith;
    }

pub Stream::align-returns-then-stands-clause-keeps : goal.Stream::align-returns-then-stands-clause-keeps
Stream::align-returns-then-stands-clause-keeps g t c =
    let left = stream_left g.C.SpanCursor.left in
    let law = stream_ordered g.C.SpanCursor.left g.met.C.SpanCursor.ordered in
    let ordered = c.args.ordered in
    let items = c.loop-next.parts.items in
    let p = c.in-Some.passage in
    let stood : furthest_from None (map left items) ≡ Some p = sym c.loop-next.invariant.stands ∙ c.in-Some.is in
    λ width. JoinLemmas.keeps_chain width ordered (map left c.settle.new.parts.items) (map left items) (map left c.args.parts.now.items)
    (FindLemmas.settle_keeps width ordered p (map left items) (map left c.settle.new.parts.items) (FindLemmas.all_ordered left law items) stood c.settle.ensures.left)
    (c.loop-next.invariant.keeps width)

pub Stream::align-returns-then-stands-clause-leads : goal.Stream::align-returns-then-stands-clause-leads
Stream::align-returns-then-stands-clause-leads g t c =
    let left = stream_left g.C.SpanCursor.left in
    let law = stream_ordered g.C.SpanCursor.left g.met.C.SpanCursor.ordered in
    let ordered = c.args.ordered in
    let items = c.loop-next.parts.items in
    let p = c.in-Some.passage in
    let stood : furthest_from None (map left items) ≡ Some p = sym c.loop-next.invariant.stands ∙ c.in-Some.is in
    let here : is_here c.furthest-next-in-Some.result p ≡ true = cc in
    λ width. FindLemmas.settle_leads width ordered p (map left items) (map left c.settle.new.parts.items) c.furthest-next-in-Some.result c.heads_cover.result c.settle.ensures.left
    (FindLemmas.all_ordered left law c.settle.new.parts.items) c.furthest-next-in-Some.ensures here c.heads_cover.ensures

pub Stream::align-loop-next-smaller : goal.Stream::align-loop-next-smaller
Stream::align-loop-next-smaller g t c =
    let left = stream_left g.C.SpanCursor.left in
    let law = stream_ordered g.C.SpanCursor.left g.met.C.SpanCursor.ordered in
    let ordered = c.args.ordered in
    let items = c.loop-next.parts.items in
    let p = c.in-Some.passage in
    let stood : furthest_from None (map left items) ≡ Some p = sym c.loop-next.invariant.stands ∙ c.in-Some.is in
    let here : is_here c.furthest-next-in-Some.result p ≡ false = cc in
    let less = FindLemmas.settle_ahead ordered p (map left items) (map left c.settle.new.parts.items) c.furthest-next-in-Some.result c.settle.ensures.left c.furthest-next-in-Some.ensures here
    c.fit.ensures.row c.fit.ensures.part in
    subst (λ o. passages_ahead c.furthest-next-in-Some.result < passages_ahead o) (sym c.in-Some.is) less

pub Stream::align-loop-next-preserved : goal.Stream::align-loop-next-preserved
Stream::align-loop-next-preserved g t c =
    let left = stream_left g.C.SpanCursor.left in
    let law = stream_ordered g.C.SpanCursor.left g.met.C.SpanCursor.ordered in
    let ordered = c.args.ordered in
    let items = c.loop-next.parts.items in
    let p = c.in-Some.passage in
    let stood : furthest_from None (map left items) ≡ Some p = sym c.loop-next.invariant.stands ∙ c.in-Some.is in
    record {
      keeps = λ width. JoinLemmas.keeps_chain width ordered (map left c.settle.new.parts.items) (map left items) (map left c.args.parts.now.items)
          (FindLemmas.settle_keeps width ordered p (map left items) (map left c.settle.new.parts.items) (FindLemmas.all_ordered left law items) stood c.settle.ensures.left)
          (c.loop-next.invariant.keeps width);
      stands = c.furthest-next-in-Some.ensures;
      depth = c.settle.ensures.depth ∙ c.loop-next.invariant.depth;
      cost = omega (arith, c.settle.ensures.cost, c.loop-next.invariant.cost);
    }

pub Stream::align-returns-clause-leads : goal.Stream::align-returns-clause-leads
Stream::align-returns-clause-leads g t c =
    let left = stream_left g.C.SpanCursor.left in
    λ width. JoinLemmas.none_left width c.args.ordered (map left c.loop-next.parts.items) (sym c.loop-next.invariant.stands ∙ c.in_default.is)

pub Stream::find-loop-next-init : goal.Stream::find-loop-next-init
Stream::find-loop-next-init g t c =
    let left = stream_left g.C.SpanCursor.left in
    let joins = JoinLemmas.keeps_joined c.args.width c.args.ordered (map left c.align-next.new.parts.items) (map left c.args.parts.now.items) (c.align-next.ensures.keeps c.args.width) in
    record {
      spans = ap (filter (is_after c.args.after)) joins;
      leads = c.align-next.ensures.leads c.args.width;
      depth = c.align-next.ensures.depth;
      cost = c.align-next.ensures.cost;
    }

pub Stream::find-returns-then-gives-clause-left : goal.Stream::find-returns-then-gives-clause-left
Stream::find-returns-then-gives-clause-left g t c =
    let left = stream_left g.C.SpanCursor.left in
    let given : is_given c.args.width c.args.after (option_map cover_span c.align-next-in-Some.result) (cover_span c.in-Some.cover) ≡ true = cc in
    FindLemmas.find_gives c.args.width c.args.ordered (map left c.loop-next.parts.items) (map left c.pass_all.new.parts.items) (map left c.align-next-in-Some.new.parts.items) c.loop-next.next c.in-Some.cover
    c.align-next-in-Some.result c.in-Some.is c.loop-next.invariant.leads c.pass_all.ensures.left (c.align-next-in-Some.ensures.keeps c.args.width) (c.align-next-in-Some.ensures.leads c.args.width) c.args.after given
    ∙ c.loop-next.invariant.spans

pub Stream::find-loop-next-smaller : goal.Stream::find-loop-next-smaller
Stream::find-loop-next-smaller g t c =
    let left = stream_left g.C.SpanCursor.left in
    FindLemmas.find_ahead c.args.width c.args.ordered (map left c.loop-next.parts.items) (map left c.pass_all.new.parts.items) (map left c.align-next-in-Some.new.parts.items) c.loop-next.next c.in-Some.cover
    c.align-next-in-Some.result c.in-Some.is c.loop-next.invariant.leads c.pass_all.ensures.left (c.align-next-in-Some.ensures.keeps c.args.width) (c.align-next-in-Some.ensures.leads c.args.width) c.fit.ensures.row c.fit.ensures.part c.fit.ensures.first

pub Stream::find-loop-next-preserved : goal.Stream::find-loop-next-preserved
Stream::find-loop-next-preserved g t c =
    let left = stream_left g.C.SpanCursor.left in
    let given : is_given c.args.width c.args.after (option_map cover_span c.align-next-in-Some.result) (cover_span c.in-Some.cover) ≡ false = cc in
    let spans = FindLemmas.find_passes c.args.width c.args.ordered (map left c.loop-next.parts.items) (map left c.pass_all.new.parts.items) (map left c.align-next-in-Some.new.parts.items) c.loop-next.next c.in-Some.cover
    c.align-next-in-Some.result c.in-Some.is c.loop-next.invariant.leads c.pass_all.ensures.left (c.align-next-in-Some.ensures.keeps c.args.width) (c.align-next-in-Some.ensures.leads c.args.width) c.args.after given in
    record {
      spans = spans ∙ c.loop-next.invariant.spans;
      leads = c.align-next-in-Some.ensures.leads c.args.width;
      depth = c.align-next-in-Some.ensures.depth ∙ c.pass_all.ensures.depth ∙ c.loop-next.invariant.depth;
      cost = omega (arith, c.align-next-in-Some.ensures.cost, c.pass_all.ensures.cost, c.loop-next.invariant.cost);
    }

pub Stream::find-returns-clause-left : goal.Stream::find-returns-clause-left
Stream::find-returns-clause-left g t c =
    let left = stream_left g.C.SpanCursor.left in
    let none = FindLemmas.none_joined c.args.width c.args.ordered (map left c.loop-next.parts.items) c.loop-next.next c.loop-next.invariant.leads c.in_default.is in
    sym (ap (filter (is_after c.args.after)) none) ∙ c.loop-next.invariant.spans

pub Stream::gather-seek_passage-requires : goal.Stream::gather-seek_passage-requires
Stream::gather-seek_passage-requires g t c =
    let left = stream_left g.C.SpanCursor.left in
    let items = c.loop-i.parts.items in
    let firsts = c.args.parts.now.items in
    let i = c.loop-i.i in
    let part = c.index_mut.result.now in
    let within : i < length items = omega (arith, same_length left (spans_from (c.args.passage.0, c.args.passage.1)) i items firsts c.loop-i.invariant.lists, c.len-i-end.ensures) in
    let deepest = part_depth stream_depth items i part within c.index_mut.ensures.value in
    let same = ap highest c.loop-i.invariant.depth in
    let below : 8 * stream_depth part + 5 < 8 * (highest (map stream_depth firsts) + 1) = omega (arith, deepest, same) in
    search (rules, arith, below)

pub Stream::gather-loop-i-preserved : goal.Stream::gather-loop-i-preserved
Stream::gather-loop-i-preserved g t c =
    let left = stream_left g.C.SpanCursor.left in
    let rest = stream_rest g.C.SpanCursor.rest in
    let items = c.loop-i.parts.items in
    let firsts = c.args.parts.now.items in
    let i = c.loop-i.i in
    let part = c.index_mut.result.now in
    let new = c.seek_passage.new.self in
    let within : i < length items = omega (arith, same_length left (spans_from (c.args.passage.0, c.args.passage.1)) i items firsts c.loop-i.invariant.lists, c.len-i-end.ensures) in
    record {
      lists = moved_part left (spans_from (c.args.passage.0, c.args.passage.1)) i items (map left firsts) part new c.loop-i.invariant.lists within c.index_mut.ensures.value c.seek_passage.ensures.left;
      depth = map-set_same stream_depth items i new part (c.seek_passage.ensures.depth ∙ ap stream_depth c.index_mut.ensures.value) ∙ c.loop-i.invariant.depth;
      cost = cost_part rest items i part new c.loop-i.steps c.seek_passage.new.steps _ within c.index_mut.ensures.value c.seek_passage.ensures.cost c.loop-i.invariant.cost;
    }

pub Stream::gather-returns-clause-left : goal.Stream::gather-returns-clause-left
Stream::gather-returns-clause-left g t c =
    let left = stream_left g.C.SpanCursor.left in
    let firsts = c.args.parts.now.items in
    let all : length firsts ≤ c.loop-i.i = omega (arith, c.len-i-end.ensures) in
    moved_parts left (spans_from (c.args.passage.0, c.args.passage.1)) c.loop-i.i c.loop-i.parts.items firsts c.loop-i.invariant.lists all

pub Stream::merge-returns-then-follows-clause-left : goal.Stream::merge-returns-then-follows-clause-left
Stream::merge-returns-then-follows-clause-left g t c =
    let left = stream_left g.C.SpanCursor.left in
    let law = stream_ordered g.C.SpanCursor.left g.met.C.SpanCursor.ordered in
    let items = c.loop-next.parts.items in
    let passed = map left c.pass_all.new.parts.items in
    let cover = c.in-Some.cover in
    let first : soonest_from None (map left items) ≡ Some (cover_span cover) = sym c.loop-next.invariant.stands ∙ ap (option_map cover_span) c.in-Some.is in
    let turn : merged_spans (map left items) ≡ cover_span cover ∷ merged_spans passed =
    MergeLemmas.merge_turn cover (map left items) passed (FindLemmas.all_ordered left law items) first c.pass_all.ensures.left in
    let behind : is_after c.args.after (cover_span cover) ≡ true = cc in
    TurnLemmas.found_given c.args.after cover (merged_spans (map left items)) (merged_spans passed) (ordered_least (joined (map left items))) turn behind ∙ c.loop-next.invariant.spans

pub Stream::merge-loop-next-smaller : goal.Stream::merge-loop-next-smaller
Stream::merge-loop-next-smaller g t c =
    let left = stream_left g.C.SpanCursor.left in
    let law = stream_ordered g.C.SpanCursor.left g.met.C.SpanCursor.ordered in
    let items = c.loop-next.parts.items in
    let passed = map left c.pass_all.new.parts.items in
    let cover = c.in-Some.cover in
    let first : soonest_from None (map left items) ≡ Some (cover_span cover) = sym c.loop-next.invariant.stands ∙ ap (option_map cover_span) c.in-Some.is in
    let turn : merged_spans (map left items) ≡ cover_span cover ∷ merged_spans passed =
    MergeLemmas.merge_turn cover (map left items) passed (FindLemmas.all_ordered left law items) first c.pass_all.ensures.left in
    MergeLemmas.merge_ahead cover (map left items) passed c.loop-next.next c.soonest-next-in-Some.result c.in-Some.is c.pass_all.ensures.left c.soonest-next-in-Some.ensures c.fit.ensures.row c.fit.ensures.part c.fit.ensures.first

pub Stream::merge-loop-next-preserved : goal.Stream::merge-loop-next-preserved
Stream::merge-loop-next-preserved g t c =
    let left = stream_left g.C.SpanCursor.left in
    let law = stream_ordered g.C.SpanCursor.left g.met.C.SpanCursor.ordered in
    let items = c.loop-next.parts.items in
    let passed = map left c.pass_all.new.parts.items in
    let cover = c.in-Some.cover in
    let first : soonest_from None (map left items) ≡ Some (cover_span cover) = sym c.loop-next.invariant.stands ∙ ap (option_map cover_span) c.in-Some.is in
    let turn : merged_spans (map left items) ≡ cover_span cover ∷ merged_spans passed =
    MergeLemmas.merge_turn cover (map left items) passed (FindLemmas.all_ordered left law items) first c.pass_all.ensures.left in
    let behind : is_after c.args.after (cover_span cover) ≡ false = cc in
    record {
      spans = sym (TurnLemmas.found_passed c.args.after (cover_span cover) (merged_spans (map left items)) (merged_spans passed) true turn (MergeLemmas.and_with behind)) ∙ c.loop-next.invariant.spans;
      stands = c.soonest-next-in-Some.ensures;
      depth = c.pass_all.ensures.depth ∙ c.loop-next.invariant.depth;
      cost = omega (arith, c.pass_all.ensures.cost, c.loop-next.invariant.cost);
    }

pub Stream::merge-returns-clause-left : goal.Stream::merge-returns-clause-left
Stream::merge-returns-clause-left g t c =
    let left = stream_left g.C.SpanCursor.left in
    let none = MergeLemmas.none_merged (map left c.loop-next.parts.items) (sym c.loop-next.invariant.stands ∙ ap (option_map cover_span) c.in_default.is) in
    sym (ap (filter (is_after c.args.after)) none) ∙ c.loop-next.invariant.spans

pub Stream::pass-loop-first-init : goal.Stream::pass-loop-first-init
Stream::pass-loop-first-init g t c =
    let left = stream_left g.C.SpanCursor.left in
    let p = c.args.passage in
    let sought : left c.seek_passage.new.self ≡ spans_from (p.0, p.1) (left c.args.self.now) = c.seek_passage.ensures.left in
    record {
      lists = ap (spans_beyond (p.0, p.1) c.args.place) sought ∙ PassLemmas.pass_start (p.0, p.1) c.args.place (left c.args.self.now);
      from = ap (spans_from (p.0, p.1)) sought ∙ PassLemmas.from_twice (p.0, p.1) (left c.args.self.now) ∙ sym sought;
      depth = c.seek_passage.ensures.depth;
      cost = c.seek_passage.ensures.cost;
    }

pub Stream::pass-returns-then-not-stands-clause-left : goal.Stream::pass-returns-then-not-stands-clause-left
Stream::pass-returns-then-not-stands-clause-left g t c =
    let left = stream_left g.C.SpanCursor.left in
    let law = stream_ordered g.C.SpanCursor.left g.met.C.SpanCursor.ordered in
    let p : ℕ × ℕ = (c.args.passage.0, c.args.passage.1) in
    let xs = left c.loop-first.self in
    let done : spans_beyond p c.args.place xs ≡ xs = elim c.then-not-stands.branch [
      | Stream::pass-then-not-stands-via-then-not-stands w ↦ (let here : is_here (first_passage xs) p ≡ false = cc in PassLemmas.pass_later p c.args.place xs (law c.loop-first.self) c.loop-first.invariant.from here)
      | Stream::pass-then-not-stands-via-else-not-stands+then-place-first w ↦
          PassLemmas.pass_over p c.args.place xs c.in-Some.first c.in-Some.field-0-1 (law c.loop-first.self) c.loop-first.invariant.from (sym c.span.ensures ∙ c.in-Some.is) w.if-place-first.true
    ] in
    sym done ∙ c.loop-first.invariant.lists

pub Stream::pass_all-pass-requires : goal.Stream::pass_all-pass-requires
Stream::pass_all-pass-requires g t c =
    let left = stream_left g.C.SpanCursor.left in
    let items = c.loop-i.parts.items in
    let firsts = c.args.parts.now.items in
    let i = c.loop-i.i in
    let part = c.index_mut.result.now in
    let within : i < length items = omega (arith, same_length left (spans_beyond (c.args.passage.0, c.args.passage.1) c.args.place) i items firsts c.loop-i.invariant.lists, c.len-i-end.ensures) in
    let deepest = part_depth stream_depth items i part within c.index_mut.ensures.value in
    let same = ap highest c.loop-i.invariant.depth in
    let below : 8 * stream_depth part + 6 < 8 * (highest (map stream_depth firsts) + 1) = omega (arith, deepest, same) in
    search (rules, arith, below)

pub Stream::pass_all-loop-i-preserved : goal.Stream::pass_all-loop-i-preserved
Stream::pass_all-loop-i-preserved g t c =
    let left = stream_left g.C.SpanCursor.left in
    let rest = stream_rest g.C.SpanCursor.rest in
    let items = c.loop-i.parts.items in
    let firsts = c.args.parts.now.items in
    let i = c.loop-i.i in
    let part = c.index_mut.result.now in
    let new = c.pass.new.self in
    let within : i < length items = omega (arith, same_length left (spans_beyond (c.args.passage.0, c.args.passage.1) c.args.place) i items firsts c.loop-i.invariant.lists, c.len-i-end.ensures) in
    record {
      lists = moved_part left (spans_beyond (c.args.passage.0, c.args.passage.1) c.args.place) i items (map left firsts) part new c.loop-i.invariant.lists within c.index_mut.ensures.value c.pass.ensures.left;
      depth = map-set_same stream_depth items i new part (c.pass.ensures.depth ∙ ap stream_depth c.index_mut.ensures.value) ∙ c.loop-i.invariant.depth;
      cost = cost_part rest items i part new c.loop-i.steps c.pass.new.steps _ within c.index_mut.ensures.value c.pass.ensures.cost c.loop-i.invariant.cost;
    }

pub Stream::pass_all-returns-clause-left : goal.Stream::pass_all-returns-clause-left
Stream::pass_all-returns-clause-left g t c =
    let left = stream_left g.C.SpanCursor.left in
    let firsts = c.args.parts.now.items in
    let all : length firsts ≤ c.loop-i.i = omega (arith, c.len-i-end.ensures) in
    moved_parts left (spans_beyond (c.args.passage.0, c.args.passage.1) c.args.place) c.loop-i.i c.loop-i.parts.items firsts c.loop-i.invariant.lists all

pub Stream::string-pass_end-requires : goal.Stream::string-pass_end-requires
Stream::string-pass_end-requires g t c =
    let left = stream_left g.C.SpanCursor.left in
    let items = c.loop-i.parts.items in
    let firsts = c.args.parts.now.items in
    let i = c.loop-i.i in
    let part = c.index_mut.result.now in
    let within : i < length items = omega (arith, length-map items stream_depth, length-map firsts stream_depth, ap length c.loop-i.invariant.depth, c.len-i-end.ensures) in
    let deepest = part_depth stream_depth items i part within c.index_mut.ensures.value in
    let same = ap highest c.loop-i.invariant.depth in
    let below : 8 * stream_depth part + 7 < 8 * (highest (map stream_depth firsts) + 1) = omega (arith, deepest, same) in
    search (rules, arith, below)

pub Stream::string-loop-i-preserved : goal.Stream::string-loop-i-preserved
Stream::string-loop-i-preserved g t c =
    let left = stream_left g.C.SpanCursor.left in
    let rest = stream_rest g.C.SpanCursor.rest in
    let items = c.loop-i.parts.items in
    let firsts = c.args.parts.now.items in
    let p = c.args.passage in
    let i = c.loop-i.i in
    let part = c.index_mut.result.now in
    let new = c.pass_end.new.self in
    let within : i < length items = omega (arith, length-map items stream_depth, length-map firsts stream_depth, ap length c.loop-i.invariant.depth, c.len-i-end.ensures) in
    record {
      from = omega arith;
      lists = PassLemmas.string_part left (p.0, p.1) i items (map left firsts) c.index.result.now part new c.span-end.result c.loop-i.invariant.from c.loop-i.invariant.lists within
          c.index.ensures c.index_mut.ensures.value c.span-end.ensures c.pass_end.ensures.left;
      depth = map-set_same stream_depth items i new part (c.pass_end.ensures.depth ∙ ap stream_depth c.index_mut.ensures.value) ∙ c.loop-i.invariant.depth;
      cost = cost_part rest items i part new c.loop-i.steps c.pass_end.new.steps _ within c.index_mut.ensures.value c.pass_end.ensures.cost c.loop-i.invariant.cost;
    }
