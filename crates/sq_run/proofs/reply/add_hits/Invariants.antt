use Rattle.std.proofs.Common.{◌≡◌, ◌++◌, take, string_bytes, flat_map}
use Rattle.sq_run.specs.Replies.{hit_text}
use Rattle.sq_run.proofs.reply.add_hits.Given as goal

abbrev pub invariant-loop-hit : goal.invariant-loop-hit
invariant-loop-hit l = string_bytes l.text ≡ string_bytes l.fn.text ++ flat_map hit_text (take l.hit-index l.hits)
