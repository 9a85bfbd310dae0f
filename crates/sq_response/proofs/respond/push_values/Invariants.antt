use Rattle.std.proofs.Common.{◌≡◌, ◌++◌, take, string_bytes}
use Rattle.std.specs.List.{flat_map}
use Rattle.sq_response.specs.Response.{value_text}
use Rattle.sq_response.proofs.respond.push_values.Given as goal

abbrev pub invariant-loop-shown : goal.invariant-loop-shown
invariant-loop-shown l = string_bytes l.text ≡ string_bytes l.fn.text ++ flat_map value_text (take l.shown-index l.values)
