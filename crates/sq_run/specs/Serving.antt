-- What is done with the wires that wait.
use Rattle.std.specs.Prelude.{◌≡◌, ◌⊎◌, ℕ, ℤ, ◌<◌, List, [], ◌∷◌, ◌++◌, length, Option, Some, None, Result, Ok, Err, IfSome}
use Rattle.sq_base.specs.declared.faults.Ended.{Ended}
use Rattle.sq_base.specs.declared.wire.Wire.{Ghosts}
use Rattle.sq_schema.specs.Intervals.{clamped}
use Rattle.sq_model.specs.declared.corpus.Corpus.{Corpus}
use Rattle.sq_corpus.specs.CorpusText.{corpus_of}
use Rattle.sq_http.specs.Replies.{Answering}
use Rattle.sq_http.specs.Served.{Serves}
use Rattle.sq_engine.specs.Verdict.{Says}
use Rattle.sq_run.specs.declared.reply.Reply.{Reply}
use Rattle.sq_run.specs.declared.reply.Stop.{Stop}
use Rattle.sq_run.specs.declared.reply.Stop.TheVariants as stop
use Rattle.sq_run.specs.Command.{Order, Working, Serving, Rehearsing}
use Rattle.sq_run.specs.Desk.{desk_reply}
use Rattle.sq_run.specs.Replies.{Known, known_of}

-- two lists of one length, with the relation at each place
abbrev pub Paired : {A B : Type 0} → (A → B → Type 0) → List A → List B → Type 0
Paired R [] [] = Unit {0}
Paired R [] (y ∷ ys) = ⊥
Paired R (x ∷ xs) [] = ⊥
Paired R (x ∷ xs) (y ∷ ys) = R x y × Paired R xs ys

-- where both are told: these were taken from the front of those that wait, and these were added to those that ended
abbrev pub Moves : {A B : Type 0} → (A → B → Type 0) → ℕ → Option (List A) → Option (List A) → Option (List B) → Option (List B) → Type 0
Moves R count None waiting before after = Unit {0}
Moves R count (Some all) None before after = ⊥
Moves R count (Some all) (Some rest) None after = Unit {0}
Moves R count (Some all) (Some rest) (Some before) None = ⊥
Moves {A} {B} R count (Some all) (Some rest) (Some before) (Some after) = (served : List A) × (ends : List B)
    × (all ≡ served ++ rest) × (after ≡ before ++ ends) × Paired R served ends × (length served ≡ count)

-- a wire that waited, with the moment at which it came, was served until it ended
abbrev pub ServesOne : {W : Type 0} → Ghosts W → (ℤ → Answering) → W × ℤ → W × Ended → Type 0
ServesOne wire reply waited end = Serves wire (reply waited.1) waited.0 end.0 end.1

-- so many connections were served, in the order in which they came, and handed back
abbrev pub ServesMany : {W : Type 0} → Ghosts W → (ℤ → Answering) → ℕ → Option (List (W × ℤ)) → Option (List (W × ℤ)) → Option (List (W × Ended)) → Option (List (W × Ended)) → Type 0
ServesMany wire reply count waiting rest before after = Moves (ServesOne wire reply) count waiting rest before after

-- the desk's reply at the moment of a connection
abbrev pub known_reply : Known → ℤ → Answering
known_reply known moment = desk_reply known.names known.says (clamped moment)

-- by its status: with 0 all connections were served, with 6 fewer, since one could not be accepted
abbrev pub ServesBy : (ℕ → Type 0) → ℕ → ℕ → Type 0
ServesBy Served count status = (status ≡ 0 → Served count) × (status ≡ 6 → (n : ℕ) × (n < count) × Served n)

-- the status of a run that made this reply, or none
abbrev pub status_of_reply : Result Reply Stop → ℕ
status_of_reply (Ok reply) = reply.status
status_of_reply (Err stop.ReadFault) = 4
status_of_reply (Err stop.AcceptFault) = 6
status_of_reply (Err stop.NoMemory) = 7

-- No connection was accepted, where the ports are as they were. Else all was done and nothing is to be written, or an accept failed.
abbrev pub Untouched : Result Reply Stop → Type 0 → Type 0
Untouched (Ok reply) Same = ((reply.status ≡ 0) × (reply.text.items ≡ [])) ⊎ Same
Untouched (Err stop.ReadFault) Same = Same
Untouched (Err stop.AcceptFault) Same = Unit {0}
Untouched (Err stop.NoMemory) Same = Same

-- the same over the corpus that the bytes spell, where they are told and the words ask to serve
abbrev pub ServesOver : (Corpus → Says) → Option (List ℕ) → Option Order → (Known → ℕ → Type 0) → ℕ → Type 0
ServesOver said_of left None Served status = Unit {0}
ServesOver said_of left (Some (Working work)) Served status = Unit {0}
ServesOver said_of left (Some (Rehearsing count)) Served status = Unit {0}
ServesOver said_of left (Some (Serving count)) Served status =
    IfSome left (λ bytes. (status ≡ 0) ⊎ (status ≡ 6) → (corpus : Corpus) × (corpus_of bytes ≡ Ok corpus) × ServesBy (Served (known_of said_of corpus)) count status)
