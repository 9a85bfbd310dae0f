-- What the desk replies, by what an engine says.
use Rattle.std.specs.Prelude.{ℕ, ℤ, Bool, if◌then◌else◌, List, Option, Some, None, Ok, Err}
use Rattle.sq_base.specs.Outcome.{Outcome}
use Rattle.sq_base.specs.declared.faults.QueryFault.{QueryFault}
use Rattle.sq_packet.specs.declared.request.Request.{Request}
use Rattle.sq_packet.specs.Packet.{packet_of}
use Rattle.sq_response.specs.declared.response.Response.{Response}
use Rattle.sq_response.specs.declared.response.Response.TheVariants as response
use Rattle.sq_response.specs.Response.{response_text}
use Rattle.sq_engine.specs.Verdict.{Verdict, Unknown, Faulty, NoRefiner, NoSort, Nothing, Shows, Says}

abbrev pub fault : ℕ → ℕ → QueryFault
fault code at = record { code = code; at = at }

-- the answer to an unknown caller
abbrev pub nobody : Response
nobody = response.BadRequest (fault 511 0)

-- a verdict as a response
abbrev pub response_of : Verdict → Response
response_of Unknown = nobody
response_of (Faulty refused) = response.BadQuery refused
response_of (NoRefiner i) = response.BadRequest (fault 509 i)
response_of (NoSort i) = response.BadRequest (fault 516 i)
response_of Nothing = response.Nothing
response_of (Shows found) = response.Found found

abbrev pub packet_response : Says → List ℕ → ℤ → Outcome Request → Response
packet_response says caller moment (Err refused) = response.BadRequest refused
packet_response says caller moment (Ok request) = response_of (says caller moment request)

-- the response to a body of a known caller: the packet's first fault, or the verdict on its request
unfoldable pub desk_response : Says → List ℕ → ℤ → List ℕ → Response
desk_response says caller moment body = packet_response says caller moment (packet_of body)

-- what is replied to a body: nothing to an unknown caller
abbrev pub desk_reply : (List ℕ → Bool) → Says → ℤ → List ℕ → List ℕ → Option (List ℕ)
desk_reply names says moment caller body = if names caller then Some (response_text (desk_response says caller moment body)) else None
