-- What a connection did, by how it ended.
use Rattle.std.specs.Prelude.{◌≡◌, ℕ, ◌-◌, ◌<◌, ◌≤◌, ◌⊎◌, Bool, true, false, List, [], ◌∷◌, ◌++◌, length, take, Option, IfSome, IsSomeAnd}
use Rattle.std.specs.Io.KnownBytes.{Appends, Consumes, IsAtEnd}
use Rattle.sq_base.specs.Causes.{Rose}
use Rattle.sq_base.specs.Bytes.{AppendsPrefix}
use Rattle.sq_base.specs.declared.faults.Ended.{Ended}
use Rattle.sq_base.specs.declared.faults.Ended.TheVariants.{Finished, ReadFault, WriteFault, NoMemory}
use Rattle.sq_base.specs.declared.wire.Wire.{Ghosts}
use Rattle.sq_http.specs.Owed.{Owed, Asking, closes, owed}
use Rattle.sq_http.specs.Replies.{Answering, texts, no_memory_text}

-- the last text that is owed closes
abbrev pub ends_closed : List Owed → Bool
ends_closed [] = false
ends_closed (one ∷ []) = closes one
ends_closed (one ∷ (next ∷ more)) = ends_closed (next ∷ more)

module _ (answering : Answering) where
  -- the text of want of memory in the place of one reply of the handler
  abbrev pub GivesUpIn : List Owed → List ℕ → Type 0
  GivesUpIn all text = (front : List Owed) × (caller : List ℕ) × (body : List ℕ) × (closing : Bool) × (behind : List Owed)
      × (all ≡ front ++ Asking caller body closing ∷ behind) × (text ≡ texts answering front ++ no_memory_text)

  -- or before any byte was taken
  abbrev pub GivesUp : List ℕ → List ℕ → Type 0
  GivesUp taken text = ((taken ≡ []) × (text ≡ no_memory_text)) ⊎ GivesUpIn (owed taken) text

  -- what was sent, by how the connection ended
  abbrev pub Sent : List ℕ → Ended → Option (List ℕ) → Option (List ℕ) → Type 0
  Sent taken Finished before after = Appends before after (texts answering (owed taken))
  Sent taken ReadFault before after = Appends before after (texts answering (owed taken))
  Sent taken WriteFault before after = (text : List ℕ) × ((text ≡ texts answering (owed taken)) ⊎ GivesUp taken text) × AppendsPrefix before after text
  Sent taken NoMemory before after = (text : List ℕ) × GivesUp taken text × Appends before after text

  -- When the latest read that took a byte began, all was sent that was owed for the bytes taken by then.
  abbrev pub IsPrompt : List ℕ → List ℕ → List ℕ → ℕ × ℕ → Type 0
  IsPrompt bytes before now asked = take asked.1 now ≡ before ++ texts answering (owed (take (length bytes - asked.0) bytes))

  -- the same, where a byte was taken and the wire tells its bytes
  abbrev pub Prompt : List ℕ → Option (List ℕ) → Option (List ℕ) → Option (List ℕ) → Option (ℕ × ℕ) → Type 0
  Prompt taken left sent now asked = 0 < length taken → IfSome left (λ bytes. IfSome sent (λ before. IfSome now (λ gone. IsSomeAnd asked (IsPrompt bytes before gone))))

-- after `Finished` the input has ended, or the last text closes
abbrev pub Ends : List ℕ → Option (List ℕ) → Ended → Type 0
Ends taken left Finished = IsAtEnd left ⊎ (ends_closed (owed taken) ≡ true)
Ends taken left ended = Unit {0}

-- nothing was read before what was owed was sent
abbrev pub WasPrompt : Answering → List ℕ → Option (List ℕ) → Option (List ℕ) → Option (List ℕ) → Option (ℕ × ℕ) → Ended → Type 0
WasPrompt answering taken left sent now asked Finished = Prompt answering taken left sent now asked
WasPrompt answering taken left sent now asked ReadFault = Prompt answering taken left sent now asked
WasPrompt answering taken left sent now asked ended = Unit {0}

-- a fault is answered only where that count of the wire rose
abbrev pub HasFault : ℕ → ℕ → ℕ → ℕ → Ended → Type 0
HasFault reads_before reads_after writes_before writes_after ReadFault = Rose reads_before reads_after
HasFault reads_before reads_after writes_before writes_after WriteFault = Rose writes_before writes_after
HasFault reads_before reads_after writes_before writes_after ended = Unit {0}

-- The whole contract of a connection: the bytes it took, what it sent for them by how it ended, and when it read.
pub record Serves {W : Type 0} (wire : Ghosts W) (answering : Answering) (old new : W) (ended : Ended) : Type 0 where
  pub taken : List ℕ
  pub consumed : Consumes (wire.left old) (wire.left new) taken
  pub sent : Sent answering taken ended (wire.sent old) (wire.sent new)
  pub ends : Ends taken (wire.left new) ended
  pub prompt : WasPrompt answering taken (wire.left old) (wire.sent old) (wire.sent new) (wire.asked new) ended
  pub fault : HasFault (wire.read_faults old) (wire.read_faults new) (wire.write_faults old) (wire.write_faults new) ended
  pub later : (wire.read_faults old ≤ wire.read_faults new) × (wire.write_faults old ≤ wire.write_faults new)
