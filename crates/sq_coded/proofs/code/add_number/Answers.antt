use Rattle.std.proofs.Common.{◌/◌, ◌++◌, ap, sym, ◌∙◌, arith, append_assoc}
use Rattle.sq_coded.specs.Coded.{number_bytes}
use Rattle.sq_coded.proofs.WriteLemmas.{number_more, number_last}
use Rattle.sq_coded.proofs.code.add_number.Goals as goal

pub loop-n-preserved : goal.loop-n-preserved
loop-n-preserved c =
    let more = number_more c.loop-n.n (omega arith) (omega (arith, c.loop-n.auto.n-fits)) in
    ap (λ bytes. bytes ++ number_bytes (c.loop-n.n / 128)) c.in_ok-push.ensures.items ∙ append_assoc c.loop-n.bytes.items _ _
    ∙ ap (λ bytes. c.loop-n.bytes.items ++ bytes) (sym more) ∙ c.loop-n.invariant

pub returns : goal.returns
returns c =
    c.in_ok-push-2.ensures.items ∙ ap (λ bytes. c.loop-n.bytes.items ++ bytes) (sym (number_last c.loop-n.n (omega arith))) ∙ c.loop-n.invariant
