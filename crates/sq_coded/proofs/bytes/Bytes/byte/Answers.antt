use Rattle.std.proofs.Common.{sym, ◌∙◌}
use Rattle.std.specs.Prelude.{slice_index_or, []}
use Rattle.sq_coded.specs.Coded.{coded}
use Rattle.sq_coded.proofs.ReadLemmas.{byte_of_word, no_byte}
use Rattle.sq_coded.proofs.bytes.Bytes.byte.Goals as goal

pub returns-in-Some : goal.returns-in-Some
returns-in-Some c = λ b bytes e.
    let inside = c.self.inside in
    byte_of_word (coded (slice_index_or inside.lists.now inside.list [])) inside.next inside.word inside.left c.in-Some.word b bytes c.if-self-gt0.false (sym c.in-Some.ensures) (c.self.view_is ∙ e)

pub returns-in-None : goal.returns-in-None
returns-in-None c = λ b bytes e.
    let inside = c.self.inside in
    absurd (no_byte (coded (slice_index_or inside.lists.now inside.list [])) inside.next inside.word inside.left b bytes c.if-self-gt0.false (sym c.in-None.ensures) (c.self.view_is ∙ e))
