use Rattle.std.proofs.Common.{string_bytes}
use Rattle.std.specs.Str.Iter.{chars_rest}
use Rattle.std.proofs.lemmas.Str.{IsUtf8-past_char}
use Rattle.sq_corpus.proofs.WriteLemmas.{step-spelled, end-spelled}
use Rattle.sq_corpus.proofs.write.push_spelled.Goals as goal

pub loop-c-preserved : goal.loop-c-preserved
loop-c-preserved c =
    let held = c.loop-c.invariant in
    let cut = c.in-Some.ensures.steps.0 in (
      IsUtf8-past_char _ _ c.in-Some.c held.0 cut,
      step-spelled (string_bytes c.loop-c.out) (string_bytes c.push_escaped.new.out) _ (chars_rest c.loop-c.c-iterator) (chars_rest c.next.new.self) c.in-Some.c
          held.0 cut c.in_ok-push_escaped.ensures held.1,
    )

pub returns : goal.returns
returns c =
    end-spelled (string_bytes c.loop-c.out) _ (chars_rest c.loop-c.c-iterator) c.in-None.ensures.steps.0.0 c.loop-c.invariant.1
