use Rattle.std.proofs.Common.{arith, rules, SFits, w64}
use Rattle.std.proofs.lemmas.Int.{to_z-of_z}
use Rattle.sq_run.proofs.ServeLemmas.{Moves-none, Moves-more}
use Rattle.sq_run.proofs.serve.serve_count.Goals as goal

pub loop-served-init : goal.loop-served-init
loop-served-init g c = record { served = Moves-none _ _ _; later = omega arith }

pub loop-served-preserved : goal.loop-served-preserved
loop-served-preserved g c =
    let fits : SFits w64 c.in-Ok.moment = search rules in
    let served = simp to_z-of_z at c.serve_connection-how.ensures in
    record {
      served = rw c.done.ensures.waiting (Moves-more _ c.loop-served._served _ _ _ _ _ _ (c.in-Ok.wire, c.in-Ok.moment) (c.serve_connection-how.new.wire, c.serve_connection-how.result)
          c.loop-served.invariant.served c.in-Ok.ensures.next (rw c.accept.ensures.ended at c.done.ensures.ended) served);
      later = omega (arith, c.loop-served.invariant.later, c.accept.ensures.cause.later, c.done.ensures.faults);
    }
