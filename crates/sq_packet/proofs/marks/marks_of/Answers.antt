use Rattle.std.proofs.Common.{length, ap, arith, length-append}
use Rattle.std.specs.Str.Iter.{chars_rest}
use Rattle.std.specs.Char.{encode_utf8}
use Rattle.std.proofs.lemmas.Str.{IsUtf8-past_char}
use Rattle.sq_packet.proofs.MarkLemmas.{marks_on, marks_end}
use Rattle.sq_packet.proofs.marks.marks_of.Goals as goal

pub loop-c-preserved : goal.loop-c-preserved
loop-c-preserved c =
    let held = c.loop-c.invariant in
    let cut = c.in-Some.ensures.steps.0 in (
      IsUtf8-past_char _ _ c.in-Some.c held.0 cut,
      rw (c.in_ok-push.ensures.items, c.len_utf8.ensures.len) (marks_on c.loop-c.marks.items (chars_rest c.loop-c.c-iterator) (chars_rest c.next.new.self) _ c.in-Some.c c.loop-c.at held.0 cut held.1),
      rw c.len_utf8.ensures.len (omega (arith, held.2, ap length cut, length-append (encode_utf8 c.in-Some.c) (chars_rest c.next.new.self))),
    )

pub returns : goal.returns
returns c = marks_end c.loop-c.marks.items (chars_rest c.loop-c.c-iterator) c.loop-c.at _ c.in-None.ensures.steps.0.0 c.loop-c.invariant.1
