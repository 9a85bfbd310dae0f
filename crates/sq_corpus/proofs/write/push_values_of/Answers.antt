use Rattle.std.proofs.Common.{string_bytes}
use Rattle.sq_corpus.specs.Written.{value_line}
use Rattle.sq_corpus.specs.Writes.{is_shown}
use Rattle.sq_corpus.proofs.WriteLemmas.{step-kept, ends-kept, rest-all}
use Rattle.sq_corpus.proofs.write.push_values_of.Goals as goal

pub loop-values-preserved-in_ok-push_value : goal.loop-values-preserved-in_ok-push_value
loop-values-preserved-in_ok-push_value c = (
  step-kept (value_line c.args.name.now) c.args.property c.loop-values.values.now c.value-item.result
      (string_bytes c.loop-values.out) (string_bytes c.push_value.new.out) _
      c.in-len1-up.len_at_least c.value-item.is c.if-value-property.true (c.in_ok-push_value.ensures) c.loop-values.invariant.0,
  rest-all is_shown c.loop-values.values.now c.value-item.result c.in-len1-up.len_at_least c.value-item.is c.loop-values.invariant.1,
)

pub returns : goal.returns
returns c =
    ends-kept (value_line c.args.name.now) c.args.property c.loop-values.values.now (string_bytes c.loop-values.out) _
    c.in_default.len_below c.loop-values.invariant.0
