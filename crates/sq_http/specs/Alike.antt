-- Equal answers give equal replies.
use Rattle.std.specs.Prelude.{◌≡◌, ℕ, Bool, List, Contains}
use Rattle.sq_http.specs.Owed.{Owed, Asking, owed}
use Rattle.sq_http.specs.Replies.{Answering, texts}

-- two answerings have one reply to each caller and body that is asked
abbrev pub AgreeOn : List Owed → Answering → Answering → Type 0
AgreeOn all one other = (caller body : List ℕ) (closing : Bool) → Contains all (Asking caller body closing) → one caller body ≡ other caller body

-- Bytes in which only callers with equal answers stand have equal replies.
abbrev pub EqualAnswersGiveEqualReplies : Type 0
EqualAnswersGiveEqualReplies = (one other : Answering) (bytes : List ℕ) → AgreeOn (owed bytes) one other → texts one (owed bytes) ≡ texts other (owed bytes)
