use Rattle.std.proofs.Common.{string_bytes}
use Rattle.sq_corpus.specs.Written.{caller_line}
use Rattle.sq_corpus.proofs.WriteLemmas.{step-item, ends-item}
use Rattle.sq_corpus.proofs.write.push_callers.Goals as goal

pub loop-callers-preserved : goal.loop-callers-preserved
loop-callers-preserved c =
    step-item caller_line c.loop-callers.callers.now c.caller-item.result (string_bytes c.loop-callers.out) (string_bytes c.push_caller.new.out) _
    c.in-len1-up.len_at_least c.caller-item.is (c.in_ok-push_caller.ensures) c.loop-callers.invariant

pub returns : goal.returns
returns c =
    ends-item caller_line c.loop-callers.callers.now (string_bytes c.loop-callers.out) _ c.in_default.len_below c.loop-callers.invariant
