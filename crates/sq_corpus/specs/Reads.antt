-- What a reader of a corpus text answers.
use Rattle.std.specs.Prelude.{◌≡◌, ℕ, List, Result, Ok, Err}
use Rattle.sq_model.specs.declared.corpus.Corpus.{Corpus}
use Rattle.sq_corpus.specs.declared.fault.CorpusFault.{CorpusFault}
use Rattle.sq_corpus.specs.declared.fault.CorpusFault.TheVariants.{Line, NoMemory}
use Rattle.sq_corpus.specs.declared.fault.Refusal.{Refusal}
use Rattle.sq_corpus.specs.declared.fault.Refusal.TheVariants.{Code, Memory}
use Rattle.sq_corpus.specs.declared.before.Before.{Before}
use Rattle.sq_corpus.specs.CorpusText.{LineFault, corpus_of}

-- The corpus or the faulty line is answered. Want of memory may come in its place.
abbrev pub IsAnswer : Result Corpus LineFault → Result Corpus CorpusFault → Type 0
IsAnswer answer (Ok corpus) = answer ≡ Ok corpus
IsAnswer answer (Err (Line code line)) = answer ≡ Err (record { code = code; line = line })
IsAnswer answer (Err NoMemory) = Unit {0}

-- The call answers what the text spells.
abbrev pub Reads : List ℕ → Result Corpus CorpusFault → Type 0
Reads bytes result = IsAnswer (corpus_of bytes) result

-- a part of a line is read, or refused with its code
abbrev pub Gives : {A : Type 0} → Result A ℕ → Result A Refusal → Type 0
Gives answer (Ok x) = answer ≡ Ok x
Gives answer (Err (Code code)) = answer ≡ Err code
Gives answer (Err Memory) = Unit {0}

-- a line is taken, or refused with its code
abbrev pub Takes : Result Before ℕ → Before → Result Unit Refusal → Type 0
Takes answer after (Ok _) = answer ≡ Ok after
Takes answer after (Err (Code code)) = answer ≡ Err code
Takes answer after (Err Memory) = Unit {0}

-- the fault of the text, where its line of this number is refused
abbrev pub fault_at : Refusal → ℕ → CorpusFault
fault_at (Code code) line = Line code line
fault_at Memory line = NoMemory
