use Rattle.sq_rehearsal.specs.Questions.{questions_of}
use Rattle.sq_rehearsal.proofs.QuestionLemmas.{six}
use Rattle.sq_rehearsal.proofs.asking.ask.Goals as goal

pub returns : goal.returns
unfolding questions_of
returns c =
    rw (c.in_ok-put-6.ensures, c.in_ok-put-5.ensures, c.in_ok-put-4.ensures, c.in_ok-put-3.ensures, c.in_ok-put-2.ensures, c.in_ok-put.ensures)
    (six c.args.all.now _ _ _ _ _ _)
