-- What a request leaves whose head has come, by the bytes behind the head.
use Rattle.std.specs.Prelude.{ℕ, Bool, if◌then◌else◌, nat_lt, List, [], ◌∷◌, length, take, drop}
use Rattle.sq_http.specs.Owed.{Owed, Interim, Step, Open, Request, Refused, Asks, answer_to, step_answered}
use Rattle.sq_http.specs.declared.judge.Request as declared
use Rattle.sq_http.specs.declared.judge.Request.TheVariants as request

-- a request as the definitions have it
abbrev pub request_seen : declared.Request → Request
request_seen (request.Refused status closes) = Refused status closes
request_seen (request.Asks caller) = Asks caller.now

-- the interim text, if it is to go out
abbrev pub interim_if : Bool → List Owed
interim_if interim = if interim then Interim ∷ [] else []

-- `step_body`, whose job is told part by part
abbrev pub body_step : Bool → ℕ → Request → Bool → List ℕ → Step
body_step interim size request closing rest =
    if nat_lt (length rest) size then Open (interim_if interim)
    else step_answered (interim_if interim) (answer_to request closing (take size rest)) (drop size rest)
