use Rattle.std.proofs.Common.{◌≡◌, [], ◌∷◌, ◌++◌, ◌∙◌, ap, map}
use Rattle.sq_near.specs.Covers.{merged_spans}
use Rattle.sq_near.specs.Streams.{stream_left, stream_rest, merged_rest}
use Rattle.sq_near.proofs.PairLemmas.{paired_left, paired_cost, stream_left-merged, stream_rest-merged}
use Rattle.sq_near.proofs.stream.Merged.pair.Goals as goal

pub returns-clause-left : goal.returns-clause-left
returns-clause-left g c =
    let left = stream_left g.C.SpanCursor.left in
    let a = c.in-Some.first in
    let b = c.in-Some-pop_front.second in
    let after = c.pop_front-2.new.self.items in
    let parts : c.push-2.new.self.items ≡ a ∷ b ∷ [] =
    c.in_ok-push-2.ensures.items ∙ ap (λ xs. xs ++ b ∷ []) (c.in_ok-push.ensures.items ∙ ap (λ xs. xs ++ a ∷ []) c.new-parts.ensures.items) in
    let before : c.args.streams.now.items ≡ a ∷ b ∷ after = c.in-Some.ensures.items ∙ ap (λ xs. a ∷ xs) c.in-Some-pop_front.ensures.items in
    paired_left left c.args.streams.now.items after c.push_back.new.self.items a b _ before c.in_ok-push_back.ensures.items
    (stream_left-merged g.C.SpanCursor.left c.over-both.result ∙ c.over-both.ensures.left ∙ ap (λ xs. merged_spans (map left xs)) parts)

pub returns-clause-cost : goal.returns-clause-cost
returns-clause-cost g c =
    let rest = stream_rest g.C.SpanCursor.rest in
    let a = c.in-Some.first in
    let b = c.in-Some-pop_front.second in
    let after = c.pop_front-2.new.self.items in
    let parts : c.push-2.new.self.items ≡ a ∷ b ∷ [] =
    c.in_ok-push-2.ensures.items ∙ ap (λ xs. xs ++ b ∷ []) (c.in_ok-push.ensures.items ∙ ap (λ xs. xs ++ a ∷ []) c.new-parts.ensures.items) in
    let before : c.args.streams.now.items ≡ a ∷ b ∷ after = c.in-Some.ensures.items ∙ ap (λ xs. a ∷ xs) c.in-Some-pop_front.ensures.items in
    paired_cost rest c.args.streams.now.items after c.push_back.new.self.items c.push-2.new.self.items a b _ c.args.steps.now c.over-both.new.steps (merged_rest g.C.SpanCursor.rest c.over-both.result) before c.in_ok-push_back.ensures.items parts
    (stream_rest-merged g.C.SpanCursor.rest c.over-both.result) c.over-both.ensures.cost
