-- One request of a connection, from the first read for it to its last reply. Only contracts inside this crate speak of it.
use Rattle.std.specs.Prelude.{◌≡◌, ℕ, ◌+◌, ◌-◌, ◌<◌, ◌≤◌, ◌⊎◌, Bool, true, false, not, List, [], ◌∷◌, ◌++◌, length, Option, IfSome, Some, Result, Ok, Err}
use Rattle.std.specs.Io.KnownBytes.{Appends, Consumes, IsAtEnd}
use Rattle.sq_base.specs.Bytes.{AppendsPrefix}
use Rattle.sq_base.specs.declared.faults.Failed.{Failed}
use Rattle.sq_base.specs.declared.faults.Ended.{Ended}
use Rattle.sq_base.specs.declared.faults.Ended.TheVariants.{Finished, ReadFault, WriteFault, NoMemory}
use Rattle.sq_base.specs.declared.wire.Wire.{Ghosts}
use Rattle.sq_http.specs.Owed.{Owed, Step, Open, Closed, Goes, closes, step}
use Rattle.sq_http.specs.Replies.{Answering, texts}
use Rattle.sq_http.specs.Served.{GivesUpIn, HasFault}

-- what a step owes
abbrev pub owed_of : Step → List Owed
owed_of (Open owed) = owed
owed_of (Closed owed) = owed
owed_of (Goes owed rest) = owed

-- how a request ended, by what the bytes are: it goes on with what is held, it closed, or it ended
abbrev pub Leads : Step → List ℕ → Option (List ℕ) → Result Bool Ended → Type 0
Leads step held left (Ok true) = (owed : List Owed) × (step ≡ Goes owed held)
Leads step held left (Ok false) = (owed : List Owed) × (step ≡ Closed owed)
Leads step held left (Err Finished) = ((owed : List Owed) × (step ≡ Open owed)) × IsAtEnd left
Leads step held left (Err ReadFault) = (owed : List Owed) × (step ≡ Open owed)
Leads step held left (Err WriteFault) = Unit {0}
Leads step held left (Err NoMemory) = Unit {0}

-- what was sent of what is owed, by how the request ended
abbrev pub SendsOf : Answering → List Owed → Option (List ℕ) → Option (List ℕ) → Result Bool Ended → Type 0
SendsOf answering owed before after (Ok goes) = Appends before after (texts answering owed)
SendsOf answering owed before after (Err Finished) = Appends before after (texts answering owed)
SendsOf answering owed before after (Err ReadFault) = Appends before after (texts answering owed)
SendsOf answering owed before after (Err WriteFault) =
    (text : List ℕ) × ((text ≡ texts answering owed) ⊎ GivesUpIn answering owed text) × AppendsPrefix before after text
SendsOf answering owed before after (Err NoMemory) = (text : List ℕ) × GivesUpIn answering owed text × Appends before after text

-- In what follows `f` gives the step of what was taken before followed by the bytes that it is given.

-- of so many bytes that were to come and so many that had been sent: the latest read that took a byte began when the request wasn't whole, and
-- all was sent that was owed by then
pub record AskedOpen (answering : Answering) (f : List ℕ → Step) (got : List ℕ) (to_come gone : ℕ) (asked : Option (ℕ × ℕ)) : Type 0 where
  pub first : List ℕ
  pub second : List ℕ
  pub split : got ≡ first ++ second
  pub some : 0 < length second
  pub opening : List Owed
  pub is_open : f first ≡ Open opening
  pub noted : asked ≡ Some (to_come - length first, gone + length (texts answering opening))
  pub later : List Owed
  pub goes_on : owed_of (f got) ≡ opening ++ later

-- the note of the latest read, where the wire tells its bytes
abbrev pub AskedIn : Answering → (List ℕ → Step) → List ℕ → Option (List ℕ) → Option (List ℕ) → Option (ℕ × ℕ) → Option (ℕ × ℕ) → Type 0
AskedIn answering f got left sent before after =
    IfSome left (λ bytes. IfSome sent (λ gone. ((got ≡ []) × (after ≡ before)) ⊎ AskedOpen answering f got (length bytes) (length gone) after))

-- a fault is answered only where its count rose
abbrev pub FaultOf : ℕ → ℕ → ℕ → ℕ → Result Bool Ended → Type 0
FaultOf reads_before reads_after writes_before writes_after (Ok goes) = Unit {0}
FaultOf reads_before reads_after writes_before writes_after (Err ended) = HasFault reads_before reads_after writes_before writes_after ended

-- these bytes were taken, what their step owes was sent, and the step leads to the answer and to what is held now
pub record ExchangeBy {W : Type 0} (wire : Ghosts W) (answering : Answering) (f : List ℕ → Step) (held_new : List ℕ) (old new : W) (result : Result Bool Ended) : Type 0 where
  pub got : List ℕ
  pub consumed : Consumes (wire.left old) (wire.left new) got
  pub leads : Leads (f got) held_new (wire.left new) result
  pub sent : SendsOf answering (owed_of (f got)) (wire.sent old) (wire.sent new) result
  pub asked : AskedIn answering f got (wire.left old) (wire.sent old) (wire.asked old) (wire.asked new)
  pub fault : FaultOf (wire.read_faults old) (wire.read_faults new) (wire.write_faults old) (wire.write_faults new) result
  pub later : (wire.read_faults old ≤ wire.read_faults new) × (wire.write_faults old ≤ wire.write_faults new)

-- one request, where these bytes are held when it begins
abbrev pub Exchange : {W : Type 0} → Ghosts W → Answering → Bool → List ℕ → List ℕ → W → W → Result Bool Ended → Type 0
Exchange wire answering final held_old held_new old new result = ExchangeBy wire answering (λ got. step final (held_old ++ got)) held_new old new result

-- a text is owed first, and then what the step owes
abbrev pub behind : Owed → Step → Step
behind one (Open owed) = Open (one ∷ owed)
behind one (Closed owed) = Closed (one ∷ owed)
behind one (Goes owed rest) = Goes (one ∷ owed) rest

-- how the last reply to a request ends it
abbrev pub Told : Owed → Result Bool Ended → Type 0
Told one (Ok goes) = goes ≡ not (closes one)
Told one (Err Finished) = ⊥
Told one (Err ReadFault) = ⊥
Told one (Err WriteFault) = Unit {0}
Told one (Err NoMemory) = Unit {0}

-- the last reply to a request was sent; nothing was read
pub record RepliesTo {W : Type 0} (wire : Ghosts W) (answering : Answering) (one : Owed) (old new : W) (result : Result Bool Ended) : Type 0 where
  pub told : Told one result
  pub sent : SendsOf answering (one ∷ []) (wire.sent old) (wire.sent new) result
  pub fault : FaultOf (wire.read_faults old) (wire.read_faults new) (wire.write_faults old) (wire.write_faults new) result
  pub later : wire.write_faults old ≤ wire.write_faults new
  pub asked : wire.asked new ≡ wire.asked old
  pub left : wire.left new ≡ wire.left old
  pub read_faults : wire.read_faults new ≡ wire.read_faults old

-- how a request ends whose last reply was sent, or could not be sent whole
abbrev pub told_of : {T : Type 0} → Result T Failed → Bool → Result Bool Ended
told_of (Ok done) closing = Ok (not closing)
told_of (Err failed) closing = Err WriteFault
