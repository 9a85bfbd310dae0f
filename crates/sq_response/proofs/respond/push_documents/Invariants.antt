use Rattle.std.proofs.Common.{◌≡◌, ◌++◌, take, string_bytes}
use Rattle.std.specs.List.{flat_map}
use Rattle.sq_response.specs.Response.{document_text}
use Rattle.sq_response.proofs.respond.push_documents.Given as goal

abbrev pub invariant-loop-hit : goal.invariant-loop-hit
invariant-loop-hit l = string_bytes l.text ≡ string_bytes l.fn.text ++ flat_map document_text (take l.hit-index l.hits)
