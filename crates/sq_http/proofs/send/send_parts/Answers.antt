use Rattle.std.proofs.Common.{List, ℕ, Bor}
use Rattle.sq_http.proofs.PutsLemmas.{Puts-stopped}
use Rattle.sq_http.proofs.send.send_parts.Goals as goal

pub returns-in-Err : goal.returns-in-Err
returns-in-Err g c =
    let text : Bor (List ℕ) → List ℕ = λ part. part.now in
    Puts-stopped text c.args.parts.now c.parts.i _ c.parts-test.true g.W.Wire _ _ _ _ _ c.parts.invariant c.in-Err.ensures
