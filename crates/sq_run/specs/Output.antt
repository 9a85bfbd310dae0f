-- What a run writes, and its status.
use Rattle.std.specs.Prelude.{◌≡◌, ◌⊎◌, ℕ, ℤ, ◌≤◌, List, [], length, nat_le, Option, Some, None, Result, Ok, Err, IfSome, if◌then◌else◌}
use Rattle.std.specs.Io.KnownBytes.{Appends}
use Rattle.sq_base.specs.Limits.{most_corpus_bytes}
use Rattle.sq_schema.specs.Intervals.{clamped}
use Rattle.sq_model.specs.declared.corpus.Corpus.{Corpus}
use Rattle.sq_corpus.specs.CorpusText.{LineFault, corpus_of}
use Rattle.sq_engine.specs.Verdict.{Says}
use Rattle.sq_engine.specs.declared.engine.Engine.{Ghosts}
use Rattle.sq_run.specs.Command.{Order, Working, Serving, Rehearsing, order_of}
use Rattle.sq_run.specs.Rehearsing.{rehearsal_outcome}
use Rattle.sq_run.specs.Replies.{Printed, Known, known_of, known_by, IsReply, corpus_fault_text, too_long, work_outcome}
use Rattle.sq_run.specs.declared.load.Unloaded.{Unloaded}
use Rattle.sq_run.specs.declared.load.Unloaded.TheVariants as unloaded

-- all was done, and nothing is written
abbrev pub nothing_written : Printed
nothing_written = record { status = 0; text = [] }

module _ (said_of : Corpus → Says) where
  -- what comes next where a text spelled a corpus, or its first faulty line
  abbrev pub of_corpus : (Known → Option Printed) → Result Corpus LineFault → Option Printed
  of_corpus next (Ok corpus) = next (known_of said_of corpus)
  of_corpus next (Err fault) = Some (record { status = 3; text = corpus_fault_text fault.code fault.line })

  -- the same of the bytes of a corpus; nothing where they aren't told
  unfoldable pub loaded : (Known → Option Printed) → Option (List ℕ) → Option Printed
  loaded next None = None
  loaded next (Some bytes) = if nat_le (length bytes) most_corpus_bytes then of_corpus next (corpus_of bytes) else Some too_long

  -- serving writes nothing, unless the corpus is refused
  abbrev pub serving_outcome : Option (List ℕ) → Option Printed
  serving_outcome corpus = loaded (λ known. Some nothing_written) corpus

  -- What an order writes at a moment, by the bytes of the corpus and those of the input, where they are told.
  unfoldable pub order_outcome : ℤ → Option (List ℕ) → Option (List ℕ) → Order → Option Printed
  order_outcome moment corpus input (Working work) = loaded (λ known. work_outcome known (clamped moment) input work) corpus
  order_outcome moment corpus input (Serving count) = serving_outcome corpus
  order_outcome moment corpus input (Rehearsing count) = Some (rehearsal_outcome said_of moment count)

  abbrev pub words_outcome : ℤ → Option (List ℕ) → Option (List ℕ) → Option Order → Option Printed
  words_outcome moment corpus input None = Some (record { status = 2; text = [] })
  words_outcome moment corpus input (Some order) = order_outcome moment corpus input order

  -- The output of a run by its words, its moment and the bytes of its corpus and its input. It is there where those of them that the run reads are
  -- told.
  abbrev pub output : List (List ℕ) → ℤ → Option (List ℕ) → Option (List ℕ) → Option Printed
  output words moment corpus input = words_outcome moment corpus input (order_of words)

-- the run answered the outcome's status, and sent its whole text
pub record Delivers (outcome : Printed) (answer : ℕ) (before now : Option (List ℕ)) : Type 0 where
  pub status : answer ≡ outcome.status
  pub sent : Appends before now outcome.text

-- the status is that of an answer or a refusal, and not of the outside or of memory
abbrev pub IsOfOutput : ℕ → Type 0
IsOfOutput answer = (answer ≤ 3) ⊎ (answer ≡ 8)

-- what a call that loads answers: an engine that knows what the bytes spell, or the reply to them, whatever would come next
abbrev pub IsLoaded : {E : Type 0} → Ghosts E → (Corpus → Says) → Option (List ℕ) → Result E Unloaded → Type 0
IsLoaded meaning said_of left (Ok engine) = IfSome left (λ bytes. (length bytes ≤ most_corpus_bytes) × ((corpus : Corpus)
    × (corpus_of bytes ≡ Ok corpus) × (known_by meaning engine ≡ known_of said_of corpus)))
IsLoaded meaning said_of left (Err (unloaded.Refused reply)) = (next : Known → Option Printed) → IfSome (loaded said_of next left) (λ outcome. IsReply outcome reply)
IsLoaded meaning said_of left (Err unloaded.ReadFault) = Unit {0}
IsLoaded meaning said_of left (Err unloaded.NoMemory) = Unit {0}

-- a corpus is refused with status 3 or 8
abbrev pub IsRefused : {E : Type 0} → Result E Unloaded → Type 0
IsRefused (Ok engine) = Unit {0}
IsRefused (Err (unloaded.Refused reply)) = (reply.status ≡ 3) ⊎ (reply.status ≡ 8)
IsRefused (Err unloaded.ReadFault) = Unit {0}
IsRefused (Err unloaded.NoMemory) = Unit {0}
