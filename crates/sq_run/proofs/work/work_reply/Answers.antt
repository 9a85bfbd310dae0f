use Rattle.std.proofs.Common.{rules, ◌≡◌, SFits, w64, arith, to_z-of_z}
use Rattle.std.proofs.lemmas.Int.{ints}
use Rattle.sq_schema.specs.Intervals.{clamped}
use Rattle.sq_run.specs.Command.{work_of}
use Rattle.sq_run.proofs.KnownLemmas.{work_over}
use Rattle.sq_run.proofs.work.work_reply.Goals as goal

pub returns-in-Ok-clause-reply : goal.returns-in-Ok-clause-reply
returns-in-Ok-clause-reply g c =
    let fits : SFits w64 c.clamped.result = search rules in
    let told = simp to_z-of_z at c.task_reply.ensures.reply in
    let same : c.clamped.result ≡ clamped c.args.now = grind (arith, ints, to_z-of_z) in
    work_over g.D.E.Engine (g.D.Loader.says c.args.loader.now) c.in-Ok.engine (g.S.Source.left c.args.corpus.now) (g.I.Source.left c.args.input.now) (work_of c.args.task) c.args.now
    c.clamped.result c.task_reply.result c.in-Ok.ensures.loaded same told
