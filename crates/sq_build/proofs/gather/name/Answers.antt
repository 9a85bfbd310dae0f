use Rattle.std.proofs.Common.{string_bytes}
use Rattle.std.proofs.lemmas.Map.Text.{hash_map_updates_text}
use Rattle.sq_build.proofs.gather.name.Goals as goal

pub returns : goal.returns
returns c = λ t. rw c.in_ok-from_str.ensures.ok at
    (hash_map_updates_text (string_bytes c.in_ok-from_str.field-0) c.args.ids.now c.insert.new.self _ c.in_ok-insert.ensures.updates t)
