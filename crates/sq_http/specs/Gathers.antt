-- What reads take from a wire, and what the wire notes of the latest one that took a byte.
use Rattle.std.specs.Prelude.{◌≡◌, ℕ, ◌-◌, ◌<◌, ◌⊎◌, List, [], ◌++◌, length, drop, Option, Some, IfSome}
use Rattle.std.specs.Io.KnownBytes.{Consumes}
use Rattle.sq_base.specs.declared.wire.Wire.{Ghosts}
use Rattle.sq_http.specs.declared.buffer.Buffer.{Buffer}

-- the bytes that a buffer holds, and how many it has room for
abbrev pub held : Buffer → List ℕ
held buffer = buffer.bytes.items

-- the room of a buffer
abbrev pub room : Buffer → ℕ
room buffer = buffer.size

-- the bytes behind the first ones
abbrev pub gained : List ℕ → List ℕ → List ℕ
gained before after = drop (length before) after

-- what a buffer holds behind what it held
abbrev pub gains : Buffer → Buffer → List ℕ
gains old new = gained (held old) (held new)

-- Of so many bytes that were to come and so many that had been sent: the latest read that took a byte began while `IsOpen` held of what had
-- been taken by then, and the wire notes it.
pub record Latest (IsOpen : List ℕ → Type 0) (to_come gone : ℕ) (asked : Option (ℕ × ℕ)) (got : List ℕ) : Type 0 where
  pub first : List ℕ
  pub second : List ℕ
  pub split : got ≡ first ++ second
  pub some : 0 < length second
  pub opened : IsOpen first
  pub noted : asked ≡ Some (to_come - length first, gone)

-- the note of the latest read, where the wire tells its bytes
abbrev pub Asked : (List ℕ → Type 0) → Option (List ℕ) → Option (List ℕ) → Option (ℕ × ℕ) → Option (ℕ × ℕ) → List ℕ → Type 0
Asked IsOpen left sent before after got =
    IfSome left (λ bytes. IfSome sent (λ gone. ((got ≡ []) × (after ≡ before)) ⊎ Latest IsOpen (length bytes) (length gone) after got))

-- These bytes were taken and nothing was sent. Each read that took one began while `IsOpen` held of what had been taken by then.
pub record Gathers (IsOpen : List ℕ → Type 0) (left_before left_after sent : Option (List ℕ)) (before after : Option (ℕ × ℕ)) (got : List ℕ) : Type 0 where
  pub consumed : Consumes left_before left_after got
  pub asked : Asked IsOpen left_before sent before after got

-- the same of a wire as a read found it and as it left it
abbrev pub GathersOn : {W : Type 0} → Ghosts W → (List ℕ → Type 0) → W → W → List ℕ → Type 0
GathersOn wire IsOpen old new got = Gathers IsOpen (wire.left old) (wire.left new) (wire.sent old) (wire.asked old) (wire.asked new) got
