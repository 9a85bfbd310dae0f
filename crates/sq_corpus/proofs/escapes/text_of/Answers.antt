use Rattle.std.proofs.Common.{◌∙◌, ap, Some, string_bytes}
use Rattle.std.specs.Str.Iter.{chars_rest}
use Rattle.std.proofs.lemmas.Str.{IsUtf8-past_char}
use Rattle.sq_corpus.proofs.EscapeLemmas.{step-meant, step-bad, step-backslash, step-plain, end-escape, end-plain}
use Rattle.sq_corpus.proofs.escapes.text_of.Goals as goal

pub returns-in-None-escaped : goal.returns-in-None-escaped
returns-in-None-escaped c =
    let held = c.loop-c.invariant in
    step-bad (string_bytes c.loop-c.text) (chars_rest c.loop-c.c-iterator) (chars_rest c.next.new.self) c.in-Some.c _ held.0 c.in-Some.ensures.steps.0
    c.loop-c.is_escape c.if-is_escape.true c.in-None-escaped.ensures held.1

pub loop-c-preserved-then-is_escape : goal.loop-c-preserved-then-is_escape
loop-c-preserved-then-is_escape c =
    let held = c.loop-c.invariant in
    let cut = c.in-Some.ensures.steps.0 in (
      IsUtf8-past_char _ _ c.in-Some.c held.0 cut,
      rw c.in_ok-push-in-Some-escaped.ensures.bytes
          (step-meant (string_bytes c.loop-c.text) (chars_rest c.loop-c.c-iterator) (chars_rest c.next.new.self) c.in-Some.c _ held.0 cut
          c.loop-c.is_escape c.in-Some-escaped.meant c.if-is_escape.true c.in-Some-escaped.ensures held.1),
    )

pub loop-c-preserved-then-c-eq92 : goal.loop-c-preserved-then-c-eq92
loop-c-preserved-then-c-eq92 c =
    let held = c.loop-c.invariant in
    let cut = c.in-Some.ensures.steps.0 in (
      IsUtf8-past_char _ _ c.in-Some.c held.0 cut,
      step-backslash (string_bytes c.loop-c.text) (chars_rest c.loop-c.c-iterator) (chars_rest c.next.new.self) c.in-Some.c _ held.0 cut
          c.loop-c.is_escape c.if-is_escape.false c.if-c-eq92.true held.1,
    )

pub loop-c-preserved : goal.loop-c-preserved
loop-c-preserved c =
    let held = c.loop-c.invariant in
    let cut = c.in-Some.ensures.steps.0 in (
      IsUtf8-past_char _ _ c.in-Some.c held.0 cut,
      rw c.in_ok-push.ensures.bytes
          (step-plain (string_bytes c.loop-c.text) (chars_rest c.loop-c.c-iterator) (chars_rest c.next.new.self) c.in-Some.c _ held.0 cut
          c.loop-c.is_escape c.if-is_escape.false c.if-c-eq92.false held.1),
    )

pub returns-then-is_escape-2 : goal.returns-then-is_escape-2
returns-then-is_escape-2 c =
    end-escape (string_bytes c.loop-c.text) (chars_rest c.loop-c.c-iterator) c.loop-c.is_escape _ c.in-None.ensures.steps.0.0
    c.if-is_escape-2.true c.loop-c.invariant.1

pub returns : goal.returns
returns c =
    let copied = c.in_ok-text.ensures ∙ c.deref.ensures in
    ap (λ t. Some t) copied
    ∙ end-plain (string_bytes c.loop-c.text) (chars_rest c.loop-c.c-iterator) c.loop-c.is_escape _ c.in-None.ensures.steps.0.0
    c.if-is_escape-2.false c.loop-c.invariant.1
