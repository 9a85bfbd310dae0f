use Rattle.std.proofs.Common.{◌≡◌, ◌++◌, take, string_bytes}
use Rattle.std.specs.List.{flat_map}
use Rattle.sq_response.specs.Response.{refiner_text}
use Rattle.sq_response.proofs.respond.push_each_refiner.Given as goal

abbrev pub invariant-loop-refined : goal.invariant-loop-refined
invariant-loop-refined l = string_bytes l.text ≡ string_bytes l.fn.text ++ flat_map refiner_text (take l.refined-index l.refiners)
