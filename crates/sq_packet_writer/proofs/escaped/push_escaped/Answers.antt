use Rattle.std.proofs.Common.{string_bytes}
use Rattle.std.specs.Str.Iter.{chars_rest}
use Rattle.std.proofs.lemmas.Str.{IsUtf8-past_char}
use Rattle.sq_packet_writer.proofs.EscapedLemmas.{escaped_on, escaped_end}
use Rattle.sq_packet_writer.proofs.escaped.push_escaped.Goals as goal

pub loop-c-preserved : goal.loop-c-preserved
loop-c-preserved c =
    let held = c.loop-c.invariant in
    let cut = c.in-Some.ensures.steps.0 in (
      IsUtf8-past_char _ _ c.in-Some.c held.0 cut,
      rw c.in_ok-push_character.ensures (escaped_on (string_bytes c.loop-c.text) (chars_rest c.loop-c.c-iterator) (chars_rest c.next.new.self) _ c.in-Some.c held.0 cut held.1),
    )

pub returns : goal.returns
returns c = escaped_end (string_bytes c.loop-c.text) (chars_rest c.loop-c.c-iterator) _ c.in-None.ensures.steps.0.0 c.loop-c.invariant.1
