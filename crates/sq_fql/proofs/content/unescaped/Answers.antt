use Rattle.std.proofs.Common.{length, string_bytes}
use Rattle.std.specs.Str.Iter.{chars_rest}
use Rattle.std.proofs.lemmas.Str.{IsUtf8-past_char}
use Rattle.sq_fql.proofs.EscapeLemmas.{step-meant, short-meant, step-backslash, short-backslash, step-plain, short-plain}
use Rattle.sq_fql.proofs.content.unescaped.Goals as goal

pub loop-c-preserved-then-is_escape : goal.loop-c-preserved-then-is_escape
loop-c-preserved-then-is_escape c =
    let held = c.loop-c.invariant in
    let cut = c.in-Some.ensures.steps.0 in (
      IsUtf8-past_char _ _ c.in-Some.c held.0 cut,
      rw c.in_ok-push_escaped.ensures (step-meant (string_bytes c.loop-c.text) (chars_rest c.loop-c.c-iterator) (chars_rest c.next.new.self) c.in-Some.c _ held.0 cut
          c.loop-c.is_escape c.if-is_escape.true held.1),
      rw c.in_ok-push_escaped.ensures (short-meant (string_bytes c.loop-c.text) (chars_rest c.loop-c.c-iterator) (chars_rest c.next.new.self) c.in-Some.c (string_bytes c.loop-c.text) held.0 cut
          (length c.args.inside.now) c.loop-c.is_escape c.if-is_escape.true held.2),
    )

pub loop-c-preserved-then-c-eq92 : goal.loop-c-preserved-then-c-eq92
loop-c-preserved-then-c-eq92 c =
    let held = c.loop-c.invariant in
    let cut = c.in-Some.ensures.steps.0 in (
      IsUtf8-past_char _ _ c.in-Some.c held.0 cut,
      step-backslash (string_bytes c.loop-c.text) (chars_rest c.loop-c.c-iterator) (chars_rest c.next.new.self) c.in-Some.c _ held.0 cut
          c.loop-c.is_escape c.if-is_escape.false c.if-c-eq92.true held.1,
      short-backslash (string_bytes c.loop-c.text) (chars_rest c.loop-c.c-iterator) (chars_rest c.next.new.self) c.in-Some.c (string_bytes c.loop-c.text) held.0 cut
          (length c.args.inside.now) c.loop-c.is_escape c.if-is_escape.false c.if-c-eq92.true held.2,
    )

pub loop-c-preserved : goal.loop-c-preserved
loop-c-preserved c =
    let held = c.loop-c.invariant in
    let cut = c.in-Some.ensures.steps.0 in (
      IsUtf8-past_char _ _ c.in-Some.c held.0 cut,
      rw c.in_ok-push.ensures.bytes (step-plain (string_bytes c.loop-c.text) (chars_rest c.loop-c.c-iterator) (chars_rest c.next.new.self) c.in-Some.c _ held.0 cut
          c.loop-c.is_escape c.if-is_escape.false c.if-c-eq92.false held.1),
      rw c.in_ok-push.ensures.bytes (short-plain (string_bytes c.loop-c.text) (chars_rest c.loop-c.c-iterator) (chars_rest c.next.new.self) c.in-Some.c (string_bytes c.loop-c.text) held.0 cut
          (length c.args.inside.now) c.loop-c.is_escape held.2),
    )
