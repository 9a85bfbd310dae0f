use Rattle.std.proofs.Common.{ap, ◌∙◌, length, arith}
use Rattle.sq_service.proofs.service.ServiceEngine.callers.Goals as goal

pub overflow_cast-result : goal.overflow_cast-result
overflow_cast-result c =
    let same = ap length c.callers.ensures ∙ ap length c.tells.ensures.1.callers in
    omega (arith, same, c.tells.ensures.1.valid.few_callers, c.len.ensures)
