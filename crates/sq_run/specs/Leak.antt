-- Nothing of what a caller doesn't see is told, in no reply and on no connection.
use Rattle.std.specs.Prelude.{◌≡◌, ℕ, ℤ, Bool, List, Contains}
use Rattle.sq_model.specs.declared.corpus.Corpus.{Corpus}
use Rattle.sq_http.specs.Owed.{Owed, Asking, owed}
use Rattle.sq_http.specs.Replies.{texts}
use Rattle.sq_engine.specs.Leak.{LooksSame}
use Rattle.sq_engine.specs.Verdict.{verdict}
use Rattle.sq_run.specs.Replies.{known_of}
use Rattle.sq_run.specs.Serving.{known_reply}

-- corpora that look the same to a name give it the same reply to every body at every moment
abbrev pub NoReplyLeaks : Type 0
NoReplyLeaks = (a b : Corpus) (name body : List ℕ) (moment : ℤ) → LooksSame name a b
    → known_reply (known_of verdict a) moment name body ≡ known_reply (known_of verdict b) moment name body

-- to each caller who asks in these bytes both corpora look the same
abbrev pub LookSameToAll : List Owed → Corpus → Corpus → Type 0
LookSameToAll all a b = (name body : List ℕ) (closing : Bool) → Contains all (Asking name body closing) → LooksSame name a b

-- bytes in which only such callers ask have the same replies
abbrev pub NoConnectionLeaks : Type 0
NoConnectionLeaks = (a b : Corpus) (bytes : List ℕ) (moment : ℤ) → LookSameToAll (owed bytes) a b
    → texts (known_reply (known_of verdict a) moment) (owed bytes) ≡ texts (known_reply (known_of verdict b) moment) (owed bytes)
