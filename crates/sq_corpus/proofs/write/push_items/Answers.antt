use Rattle.std.proofs.Common.{string_bytes}
use Rattle.sq_corpus.specs.Written.{item_text}
use Rattle.sq_corpus.specs.Writes.{are_shown}
use Rattle.sq_corpus.proofs.WriteLemmas.{step-item, ends-item, rest-all}
use Rattle.sq_corpus.proofs.write.push_items.Goals as goal

pub loop-items-preserved : goal.loop-items-preserved
loop-items-preserved c = (
  step-item (item_text c.args.schema.now) c.loop-items.items.now c.item-item.result (string_bytes c.loop-items.out) (string_bytes c.push_item.new.out) _
      c.in-len1-up.len_at_least c.item-item.is (c.in_ok-push_item.ensures) c.loop-items.invariant.0,
  rest-all are_shown c.loop-items.items.now c.item-item.result c.in-len1-up.len_at_least c.item-item.is c.loop-items.invariant.1,
)

pub returns : goal.returns
returns c =
    ends-item (item_text c.args.schema.now) c.loop-items.items.now (string_bytes c.loop-items.out) _ c.in_default.len_below c.loop-items.invariant.0
