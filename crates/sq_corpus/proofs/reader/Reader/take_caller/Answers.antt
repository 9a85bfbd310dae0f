use Rattle.sq_corpus.proofs.KeptLemmas.{named-more}
use Rattle.sq_corpus.proofs.reader.Reader.take_caller.Goals as goal

pub returns-in_ok-add_name-clause-kept : goal.returns-in_ok-add_name-clause-kept
returns-in_ok-add_name-clause-kept c = record {
  named = λ name. rw (c.in_ok-add_name.ensures name, c.requires.named name, c.in_ok-push.ensures.ok, ← c.in_ok-from_str.ensures)
      (named-more name c.args.self.now.before.callers (record { name = c.in_ok-from_str.field-0; claims = c.in_ok-copies_of.field-0 }));
  counted = c.requires.counted;
  sound = c.requires.sound;
  made = c.requires.made;
}
