use Rattle.std.proofs.Common.{◌≡◌, ◌∙◌, ◌<◌, true, sym, ap, subst, length}
use Rattle.std.specs.List.{list_any}
use Rattle.sq_schema.specs.Properties.{is_sound, has_name}
use Rattle.sq_corpus.specs.Lines.{row_of}
use Rattle.sq_corpus.proofs.SchemaLemmas.{sound_more}
use Rattle.sq_corpus.proofs.reader.Reader.take_row.Goals as goal

pub returns-in_ok-push-clause-kept : goal.returns-in_ok-push-clause-kept
returns-in_ok-push-clause-kept c = record {
  named = c.requires.named;
  counted = c.requires.counted;
  sound =
      let good : c.in_ok-sound.sound ≡ true = c.if-not-sound.false in
      let room : length c.args.self.now.before.rows < 64 = subst (λ n. n < 64) c.len.ensures c.if-len-ge-MOST_ROWS.false in
      rw (c.in_ok-push.ensures.ok, c.in_ok-row.ensures)
      (sound_more c.args.self.now.before.rows (row_of c.args.name.now c.args.kind c.args.flags) c.requires.sound
      (ap is_sound (sym c.in_ok-row_of.ensures) ∙ sym c.in_ok-sound.ensures ∙ good)
      (ap (list_any (has_name c.args.name.now)) (sym c.as_slice.ensures) ∙ sym c.is_taken.ensures ∙ c.if-is_taken.false)
      room);
  made = tt;
}
