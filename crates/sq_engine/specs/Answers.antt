-- What a call answers by the verdict.
use Rattle.std.specs.Prelude.{◌≡◌, Result, Ok, Err}
use Rattle.sq_response.specs.declared.response.Response.{Response}
use Rattle.sq_response.specs.declared.response.Response.TheVariants as response
use Rattle.sq_engine.specs.declared.refused.Refused.{Refused}
use Rattle.sq_engine.specs.declared.refused.Refused.TheVariants as refusal
use Rattle.sq_engine.specs.Verdict.{Verdict, Unknown, Faulty, NoRefiner, NoSort, Nothing, Shows}

-- The call answers the verdict. Want of memory may come in its place.
abbrev pub Answers : Verdict → Result Response Refused → Type 0
Answers verdict (Ok (response.Found found)) = verdict ≡ Shows found
Answers verdict (Ok response.Nothing) = verdict ≡ Nothing
Answers verdict (Ok (response.BadQuery fault)) = ⊥
Answers verdict (Ok (response.BadRequest fault)) = ⊥
Answers verdict (Err refusal.UnknownCaller) = verdict ≡ Unknown
Answers verdict (Err (refusal.Query fault)) = verdict ≡ Faulty fault
Answers verdict (Err (refusal.UnknownRefiner i)) = verdict ≡ NoRefiner i
Answers verdict (Err (refusal.UnknownSort i)) = verdict ≡ NoSort i
Answers verdict (Err refusal.NoMemory) = Unit {0}
