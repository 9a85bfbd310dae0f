-- Engines of a corpus, and what loading one answers.
use Rattle.std.specs.Prelude.{◌≡◌, ℕ, ◌≤◌, ◌<◌, ℤ, List, length, Result, Ok, Err}
use Rattle.sq_base.specs.Limits.{most_corpus_bytes}
use Rattle.sq_model.specs.declared.corpus.Corpus.{Corpus}
use Rattle.sq_corpus.specs.CorpusText.{corpus_of}
use Rattle.sq_packet.specs.declared.request.Request.{Request}
use Rattle.sq_engine.specs.declared.engine.Engine.{Ghosts}
use Rattle.sq_engine.specs.declared.refused.LoadFault.{LoadFault}
use Rattle.sq_engine.specs.declared.refused.LoadFault.TheVariants as fault
use Rattle.sq_engine.specs.Verdict.{Says, knows}

-- The engine has the corpus's schema, its numbers and its names, and says what is said of the corpus.
pub record IsEngineOf {E : Type 0} (meaning : Ghosts E) (said_of : Corpus → Says) (engine : E) (corpus : Corpus) : Type 0 where
  pub schema : meaning.schema engine ≡ corpus.schema
  pub callers : meaning.callers engine ≡ length corpus.callers
  pub items : meaning.items engine ≡ length corpus.items
  pub names : (name : List ℕ) → meaning.names engine name ≡ knows corpus name
  pub says : (name : List ℕ) (moment : ℤ) (request : Request) → meaning.says engine name moment request ≡ said_of corpus name moment request

-- Loading these bytes gives an engine of the corpus that they spell, or the cause why there is none.
abbrev pub Loads : {E : Type 0} → (E → Corpus → Type 0) → List ℕ → Result E LoadFault → Type 0
Loads IsOf bytes (Ok engine) = (length bytes ≤ most_corpus_bytes) × ((corpus : Corpus) × (corpus_of bytes ≡ Ok corpus) × IsOf engine corpus)
Loads IsOf bytes (Err fault.ReadFault) = Unit {0}
Loads IsOf bytes (Err fault.TooLong) = most_corpus_bytes < length bytes
Loads IsOf bytes (Err (fault.Corpus code line)) = (length bytes ≤ most_corpus_bytes) × (corpus_of bytes ≡ Err (record { code = code; line = line }))
Loads IsOf bytes (Err fault.NoMemory) = Unit {0}
