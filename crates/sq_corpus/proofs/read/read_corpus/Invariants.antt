use Rattle.std.proofs.Common.{◌≡◌, ◌+◌, ◌≤◌, length}
use Rattle.sq_corpus.specs.CorpusText.{corpus_from, corpus_of}
use Rattle.sq_corpus.specs.Keeps.{IsKept}
use Rattle.sq_corpus.specs.Pieces.{lines_of}
use Rattle.sq_corpus.proofs.read.read_corpus.Given as goal

abbrev pub invariant-loop-line : goal.invariant-loop-line
invariant-loop-line l =
    (corpus_from l.number l.reader.before (lines_of l.rest) ≡ corpus_of l.bytes) × IsKept l.reader
    × (l.number + length l.rest ≤ length l.bytes + 1)

abbrev pub decreases-loop-line : goal.decreases-loop-line
decreases-loop-line l = length l.rest
