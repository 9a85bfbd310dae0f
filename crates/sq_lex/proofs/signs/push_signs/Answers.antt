use Rattle.std.proofs.Common.{◌∙◌, ap, arith}
use Rattle.sq_lex.specs.Kql.{sign}
use Rattle.sq_lex.proofs.WholeLemmas.{sign_whole, signs_on}
use Rattle.sq_lex.proofs.signs.push_signs.Goals as goal

pub returns-in_err-push_one-clause-whole : goal.returns-in_err-push_one-clause-whole
returns-in_err-push_one-clause-whole c h = c.in_err-push_one.ensures.whole c.args.text.now (sign_whole _ _ _ _ c.sign.ensures) (c.loop-at.invariant.3 h)

pub loop-at-preserved : goal.loop-at-preserved
loop-at-preserved c =
    let same = c.sign.ensures ∙ ap sign c.byte_at.ensures.value in (
      signs_on _ _ _ _ _ _ _ _ c.loop-at-test.true c.requires.within same c.in_ok-push_one.ensures.taken c.loop-at.invariant.0,
      omega (arith, c.loop-at.invariant.1),
      omega (arith, c.loop-at-test.true),
      λ h. c.in_ok-push_one.ensures.whole c.args.text.now (sign_whole _ _ _ _ c.sign.ensures) (c.loop-at.invariant.3 h),
    )
