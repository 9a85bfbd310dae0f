use Rattle.sq_run.proofs.CompleteLemmas.{texts_answered, texts_lowered}
use Rattle.sq_run.proofs.laws.complete_texts.Goals as goal

pub returns-clause-asked : goal.returns-clause-asked
returns-clause-asked c = texts_answered

pub returns-clause-lowered : goal.returns-clause-lowered
returns-clause-lowered c = texts_lowered
