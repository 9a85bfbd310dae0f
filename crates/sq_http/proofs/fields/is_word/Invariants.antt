use Rattle.std.proofs.Common.{◌≡◌, length}
use Rattle.sq_http.specs.Owed as spec
use Rattle.sq_http.proofs.fields.is_word.Given as goal

abbrev pub invariant-bytes : goal.invariant-bytes
invariant-bytes l = spec.is_word l.words l.texts ≡ spec.is_word l.word l.text

abbrev pub decreases-bytes : goal.decreases-bytes
decreases-bytes l = length l.words
