use Rattle.std.proofs.Common.{◌≡◌, ◌+◌, ◌*◌, ◌++◌, ◌∷◌, drop, get_or, ap, sym, ◌∙◌, arith, append_assoc}
use Rattle.sq_coded.specs.Coded.{packed}
use Rattle.sq_coded.proofs.WriteLemmas.{packed_more}
use Rattle.sq_coded.proofs.code.pack.Goals as goal

pub loop-at-preserved : goal.loop-at-preserved
loop-at-preserved c =
    let bytes = c.args.bytes.now in
    let at = c.loop-at.at in
    let word : (c.byte_or_zero-in-loop-at-2.result + 256 * c.byte_or_zero-in-loop-at-3.result) + 65_536 * (c.byte_or_zero.result + 256 * c.byte_or_zero-in-loop-at.result)
    ≡ (get_or bytes at 0 + 256 * get_or bytes (at + 1) 0) + 65_536 * (get_or bytes (at + 2) 0 + 256 * get_or bytes (at + 3) 0) =
    omega (arith, c.byte_or_zero.ensures.value, c.byte_or_zero-in-loop-at.ensures.value, c.byte_or_zero-in-loop-at-2.ensures.value, c.byte_or_zero-in-loop-at-3.ensures.value) in
    ap (λ words. words ++ packed (drop (at + 4) bytes)) c.in_ok-push.ensures.items ∙ append_assoc c.loop-at.words.items _ _
    ∙ ap (λ words. c.loop-at.words.items ++ words) (ap (λ w. w ∷ packed (drop (at + 4) bytes)) word ∙ sym (packed_more at bytes (omega arith)))
    ∙ c.loop-at.invariant
