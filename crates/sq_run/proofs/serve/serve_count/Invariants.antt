use Rattle.std.proofs.Common.{◌≤◌}
use Rattle.sq_run.specs.Serving.{ServesMany}
use Rattle.sq_run.proofs.serve.serve_count.Given as goal

abbrev pub invariant-loop-served : goal.invariant-loop-served
invariant-loop-served g l = record {
  served : ServesMany g.P.W.Wire (g.H.Handler.reply l.handler) l._served
      (g.P.Ports.waiting l.fn.ports) (g.P.Ports.waiting l.ports) (g.P.Ports.ended l.fn.ports) (g.P.Ports.ended l.ports);
  later : g.P.Ports.faults l.fn.ports ≤ g.P.Ports.faults l.ports;
}
