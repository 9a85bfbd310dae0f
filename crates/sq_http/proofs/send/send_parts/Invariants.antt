use Rattle.std.proofs.Common.{take, flat_map, Ok}
use Rattle.sq_http.specs.Puts.{Puts}
use Rattle.sq_http.proofs.send.send_parts.Given as goal

abbrev pub invariant-parts : goal.invariant-parts
invariant-parts g l = Puts g.W.Wire (flat_map (λ part. part.now) (take l.i l.parts)) l.fn.wire l.wire (Ok (tt {0}))
