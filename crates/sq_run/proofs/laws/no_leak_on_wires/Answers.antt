use Rattle.sq_run.specs.Replies.{known_of}
use Rattle.sq_run.specs.Serving.{known_reply}
use Rattle.sq_engine.specs.Verdict.{verdict}
use Rattle.sq_run.proofs.laws.no_leak_on_wires.Goals as goal

pub returns : goal.returns
returns c = λ a b bytes moment same.
    c.equal_answers_give_equal_replies.ensures (known_reply (known_of verdict a) moment) (known_reply (known_of verdict b) moment) bytes
    (λ name body closing asks. c.no_leak.ensures a b name body moment (same name body closing asks))
