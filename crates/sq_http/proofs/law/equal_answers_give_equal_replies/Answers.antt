use Rattle.sq_http.specs.Owed.{owed}
use Rattle.sq_http.proofs.AlikeLemmas.{texts_agree}
use Rattle.sq_http.proofs.law.equal_answers_give_equal_replies.Goals as goal

pub returns : goal.returns
returns c one other bytes agree = texts_agree one other (owed bytes) agree
