use Rattle.std.proofs.Common.{string_bytes}
use Rattle.sq_corpus.proofs.WriteLemmas.{step-property}
use Rattle.sq_corpus.proofs.write.push_properties.Goals as goal

pub loop-row-preserved : goal.loop-row-preserved
loop-row-preserved c =
    step-property c.loop-row.row c.args.schema.now c.property_at.result.now (string_bytes c.loop-row.out) (string_bytes c.push_property.new.out) _
    c.property_at.ensures (c.in_ok-push_property.ensures) c.loop-row.invariant
