use Rattle.std.proofs.Common.{rules, SFits, w64, to_z-of_z, ap, sym, ◌∙◌, Ok}
use Rattle.sq_base.specs.Outcome.{◌>>=◌}
use Rattle.sq_fql.specs.Canon.{canon}
use Rattle.sq_lower.specs.Lowered.{lowered}
use Rattle.sq_engine.specs.Query.{lowered_of}
use Rattle.sq_engine.proofs.query.lowered_text.Goals as goal

pub returns-in-Ok-print_fql : goal.returns-in-Ok-print_fql
unfolding lowered_of
returns-in-Ok-print_fql c =
    let fits : SFits w64 c.args.now = search rules in
    let typed = simp to_z-of_z at c.in-Ok.ensures.typed in
    ap (λ outcome. outcome >>= (λ tree. Ok (canon (lowered c.args.schema.now c.args.side tree)))) typed
    ∙ ap (λ raw. Ok (canon raw)) (sym c.in-Ok-lower.ensures.value) ∙ ap (λ text. Ok text) (sym c.in-Ok-print_fql.ensures.value)
