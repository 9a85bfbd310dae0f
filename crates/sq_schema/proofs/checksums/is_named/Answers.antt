use Rattle.std.proofs.Common.{◌≡◌, false, nat_eq, arith, sym, ◌∙◌}
use Rattle.std.proofs.lemmas.Bool.Decides.{nat_tests}
use Rattle.sq_schema.proofs.NameLemmas.{other_checksum}
use Rattle.sq_schema.proofs.checksums.is_named.Goals as goal

pub returns-else-row_sum-sum : goal.returns-else-row_sum-sum
returns-else-row_sum-sum c =
    let unequal : nat_eq c.args.row_sum c.args.sum ≡ false = grind (arith, nat_tests) in
    unequal ∙ sym (other_checksum c.args.name.now c.args.row.now (λ e. c.if-row_sum-sum.false (c.requires.row_sum ∙ e ∙ sym c.requires.sum)))
