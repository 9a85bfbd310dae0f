use Rattle.std.proofs.Common.{rules}
use Rattle.sq_rehearsal.specs.Questions.{questions}
use Rattle.sq_rehearsal.proofs.QuestionLemmas.{all_asked}
use Rattle.sq_rehearsal.proofs.asking.questions.Goals as goal

pub returns-clause-equals : goal.returns-clause-equals
unfolding questions
returns-clause-equals c = search rules

pub returns-clause-asked : goal.returns-clause-asked
unfolding questions
returns-clause-asked c = rw (c.in_ok-ask-2.ensures, c.in_ok-ask.ensures, c.new-all.ensures) all_asked
