use Rattle.std.proofs.Common.{arith}
use Rattle.sq_corpus.proofs.LineLemmas.{step-taken, step-refused}
use Rattle.sq_corpus.proofs.ValidLemmas.{answer_valid, answer_short, reads_end}
use Rattle.sq_corpus.proofs.read.read_corpus.Goals as goal

pub loop-line-preserved : goal.loop-line-preserved
loop-line-preserved c =
    let held = c.loop-line.invariant in (
      step-taken c.loop-line.number c.loop-line.reader.before c.in-Some.line.now c.in-Some.behind.now _ _ c.in-Some.ensures.0 held.0
          c.take_line.new.self.before c.in-Ok.ensures.takes,
      c.in-Ok.ensures.kept,
      omega (arith, held.2, c.in-Some.ensures.1),
    )

pub returns-in-Err-clause-reads : goal.returns-in-Err-clause-reads
returns-in-Err-clause-reads c =
    let held = c.loop-line.invariant in
    rw c.fault_at.ensures
    (step-refused c.loop-line.number c.loop-line.reader.before c.in-Some.line.now c.in-Some.behind.now _ _ c.in-Some.ensures.0 held.0
    c.take_line.new.self.before c.in-Err.refusal c.in-Err.ensures.takes)

pub returns-clause-valid : goal.returns-clause-valid
returns-clause-valid c =
    answer_valid c.spelled_corpora_are_valid.ensures c.args.bytes.now c.end_of.result c.requires
    (reads_end c.loop-line.number c.loop-line.reader.before c.loop-line.rest.now c.args.bytes.now c.end_of.result
    c.in_default.ensures c.loop-line.invariant.0 c.end_of.ensures)

pub returns-clause-short : goal.returns-clause-short
returns-clause-short c =
    answer_short c.valid_texts_are_short.ensures c.end_of.result
    (answer_valid c.spelled_corpora_are_valid.ensures c.args.bytes.now c.end_of.result c.requires
    (reads_end c.loop-line.number c.loop-line.reader.before c.loop-line.rest.now c.args.bytes.now c.end_of.result
    c.in_default.ensures c.loop-line.invariant.0 c.end_of.ensures))
