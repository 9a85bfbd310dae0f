use Rattle.std.proofs.Common.{◌≡◌, ◌++◌, take, string_bytes, flat_map}
use Rattle.sq_run.specs.Rehearsing.{question_line}
use Rattle.sq_run.proofs.rehearse.add_lines.Given as goal

abbrev pub invariant-loop-question : goal.invariant-loop-question
invariant-loop-question g l =
    string_bytes l.text ≡ string_bytes l.fn.text ++ flat_map (question_line (g.E.Engine.says l.engine) l.now) (take l.question-index l.questions)
