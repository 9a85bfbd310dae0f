use Rattle.sq_corpus.proofs.LineLemmas.{with_line-text, with_line-bad}
use Rattle.sq_corpus.proofs.reader.Reader.take_line.Goals as goal

pub returns-in-Ok-clause-takes : goal.returns-in-Ok-clause-takes
returns-in-Ok-clause-takes c =
    rw (with_line-text c.args.self.now.before c.args.line.now c.in-Ok.ensures.cases.1)
    (rw c.in-Ok.ensures.cases.0 at c.take_text.ensures.takes)

pub returns-in-Err-clause-takes : goal.returns-in-Err-clause-takes
returns-in-Err-clause-takes c = with_line-bad c.args.self.now.before c.args.line.now c.in-Err.ensures.cases.0
