use Rattle.std.proofs.Common.{true, string_bytes}
use Rattle.std.proofs.lemmas.Map.Text.{btree_set_updates_text}
use Rattle.sq_corpus.proofs.names.add_name.Goals as goal

pub returns : goal.returns
returns c = λ other. rw (← c.in_ok-from_str.ensures.ok)
    (btree_set_updates_text (string_bytes c.in_ok-from_str.field-0) c.args.names.now c.insert.new.self true c.in_ok-insert.ensures.updates other)
