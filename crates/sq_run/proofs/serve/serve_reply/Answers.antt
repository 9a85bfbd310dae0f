use Rattle.std.proofs.Common.{ℕ, Some}
use Rattle.sq_run.specs.Output.{nothing_written}
use Rattle.sq_run.specs.Replies.{Known}
use Rattle.sq_run.specs.Serving.{ServesMany, known_reply, status_of_reply}
use Rattle.sq_run.proofs.KnownLemmas.{reply_over}
use Rattle.sq_run.proofs.ServeLemmas.{served_over}
use Rattle.sq_run.proofs.serve.serve_reply.Goals as goal

pub returns-in-Ok-clause-reply : goal.returns-in-Ok-clause-reply
returns-in-Ok-clause-reply g c =
    reply_over g.D.E.Engine (g.D.Loader.says c.args.loader.now) c.in-Ok.engine (g.S.Source.left c.args.corpus.now) (λ known. Some nothing_written) c.serve_engine.result
    c.in-Ok.ensures.loaded c.serve_engine.ensures.reply

pub returns-in-Ok-clause-served : goal.returns-in-Ok-clause-served
returns-in-Ok-clause-served g c =
    let Served : Known → ℕ → Type 0 = λ known n. ServesMany g.P.W.Wire (known_reply known) n (g.P.Ports.waiting c.args.ports.now) (g.P.Ports.waiting c.serve_engine.new.ports)
    (g.P.Ports.ended c.args.ports.now) (g.P.Ports.ended c.serve_engine.new.ports) in
    served_over g.D.E.Engine (g.D.Loader.says c.args.loader.now) c.in-Ok.engine (g.S.Source.left c.args.corpus.now) Served c.args.count (status_of_reply c.serve_engine.result)
    c.in-Ok.ensures.loaded c.serve_engine.ensures.served
