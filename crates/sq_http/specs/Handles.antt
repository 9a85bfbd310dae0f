-- What a handler answers, by what it is to reply: bytes, or nothing.
use Rattle.std.specs.Prelude.{◌≡◌, ℕ, List, Option, Some, None, Result, Ok, Err, Vec}
use Rattle.std.specs.Global.{Global}
use Rattle.sq_http.specs.declared.answer.Handled.{Handled}
use Rattle.sq_http.specs.declared.answer.Handled.TheVariants as handled

-- It answers that reply. Want of memory may come in the place of any.
abbrev pub Handles : Option (List ℕ) → Result (Vec ℕ Global) Handled → Type 0
Handles reply (Ok bytes) = reply ≡ Some bytes.items
Handles reply (Err handled.UnknownCaller) = reply ≡ None
Handles reply (Err handled.NoMemory) = Unit {0}
