use Rattle.std.proofs.Common.{◌≡◌, true, sym, subst}
use Rattle.std.specs.Prelude.{IfOk}
use Rattle.sq_typing.specs.SpanForms.{is_filled}
use Rattle.sq_typing.proofs.FqlFilled.{outermost_filled}
use Rattle.sq_typing.proofs.fql.outermost.Goals as goal

pub with_few_copies-requires : goal.with_few_copies-requires
with_few_copies-requires c =
    subst (λ o. IfOk o (λ u. is_filled u ≡ true)) (sym c.in_ok-near.ensures) (outermost_filled c.args.schema.now c.args.look c.args.at c.args.op c.args.operands.now)
