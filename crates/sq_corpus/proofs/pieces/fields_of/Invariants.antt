use Rattle.std.proofs.Common.{◌≡◌, ◌++◌, map, length}
use denote.Shadow.{shadow}
use denote.Text.{Utf8}
use Rattle.sq_corpus.specs.Pieces.{fields_of}
use Rattle.sq_corpus.proofs.pieces.fields_of.Given as goal

abbrev pub invariant-loop-field : goal.invariant-loop-field
invariant-loop-field l = shadow (Utf8 l.rest) × (map (λ field. field.now) l.fields.items ++ fields_of l.rest ≡ fields_of l.line)

abbrev pub decreases-loop-field : goal.decreases-loop-field
decreases-loop-field l = length l.rest
