use Rattle.std.proofs.Common.{arith, ap, sym, ◌∙◌}
use Rattle.sq_schema.specs.Properties.{has_name}
use Rattle.sq_schema.proofs.NameLemmas.{position_first, position_none}
use Rattle.sq_schema.proofs.checksums.position_of.Goals as goal

pub returns-then-is_named : goal.returns-then-is_named
returns-then-is_named c = sym (position_first (has_name c.args.name.now) c.args.rows.now c.loop-row.row c.index-rows-row.result (omega arith)
    (ap (has_name c.args.name.now) (sym c.index-rows-row.is) ∙ sym c.is_named.ensures ∙ c.if-is_named.true)
    (λ k less. c.loop-row.invariant k c.index-rows-row.result less))

pub returns : goal.returns
returns c = sym (position_none (has_name c.args.name.now) c.args.rows.now (λ k d less. c.loop-row.invariant k d (omega arith)))
