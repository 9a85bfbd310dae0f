use Rattle.std.proofs.Common.{◌≡◌, ◌++◌, List, ℕ, filter, length, ◌≤◌, string_bytes, subst, arith}
use Rattle.std.specs.List.{flat_map}
use Rattle.sq_corpus.specs.Written.{value_line, is_at}
use Rattle.sq_corpus.proofs.WriteLemmas.{step-row, ends-rows}
use Rattle.sq_corpus.proofs.write.push_values.Goals as goal

pub loop-row-preserved : goal.loop-row-preserved
loop-row-preserved c =
    let Named : List ℕ → Type 0 = λ name.
    string_bytes c.push_values_of.new.out ≡ string_bytes c.loop-row.out ++ flat_map (value_line name) (filter (is_at c.loop-row.row) c.args.values.now) in
    step-row c.args.values.now c.loop-row.row c.args.schema.now c.property_at.result.now (string_bytes c.loop-row.out) (string_bytes c.push_values_of.new.out) _
    c.property_at.ensures (subst Named c.as_str-name.ensures (c.in_ok-push_values_of.ensures)) c.loop-row.invariant

pub returns : goal.returns
returns c =
    let past : length c.args.schema.now ≤ c.loop-row.row = omega (arith, c.len-row-end.ensures.value, c.loop-row-test.false) in
    ends-rows c.args.values.now c.loop-row.row c.args.schema.now (string_bytes c.loop-row.out) _ past c.loop-row.invariant
