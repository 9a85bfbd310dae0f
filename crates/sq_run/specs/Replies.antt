-- What is written to whoever asks, by what is known of a corpus.
use Rattle.std.specs.Prelude.{◌≡◌, ◌<◌, ℕ, ℤ, Bool, true, Vec, IfSome, if◌then◌else◌, nat_le, List, [], ◌∷◌, ◌++◌, flat_map, length, Option, Some, option_map, Result, Ok, Err, codes}
use Rattle.std.specs.Fmt.{decimal, signed_decimal}
use Rattle.std.specs.Global.{Global}
use Rattle.sq_base.specs.declared.faults.ReadAll.{ReadAll}
use Rattle.sq_base.specs.declared.faults.ReadAll.TheVariants as all
use Rattle.sq_base.specs.Outcome.{Outcome}
use Rattle.sq_base.specs.Limits.{most_packet_bytes}
use Rattle.sq_schema.specs.declared.property.Property.{Property}
use Rattle.sq_model.specs.declared.corpus.Corpus.{Corpus}
use Rattle.sq_model.specs.declared.kql.Joiner.TheVariants as joiner
use Rattle.sq_packet.specs.declared.request.Language.{Language}
use Rattle.sq_packet.specs.declared.request.Request.{Request}
use Rattle.sq_packet.specs.Limits.{most_hits}
use Rattle.sq_response.specs.declared.response.Hit.{Hit}
use Rattle.sq_response.specs.declared.response.Response.{Response}
use Rattle.sq_response.specs.declared.response.Response.TheVariants as response
use Rattle.sq_response.specs.Response.{response_text}
use Rattle.sq_engine.specs.declared.engine.Engine.{Ghosts}
pub use Rattle.sq_engine.specs.Query.{lowered_of}
use Rattle.sq_engine.specs.Verdict.{Verdict, Unknown, Faulty, NoRefiner, NoSort, Nothing, Shows, Says, knows}
use Rattle.sq_run.specs.declared.reply.Reply.{Reply}
use Rattle.sq_run.specs.Command.{Work, Checking, Asking, Lowering, Packing}
use Rattle.sq_run.specs.Desk.{nobody, desk_response}

-- a status, and the whole text that is written with it
pub record Printed : Type 0 where
  pub status : ℕ
  pub text : List ℕ

-- a reply with the outcome's status and its whole text
pub record IsReply (outcome : Printed) (reply : Reply) : Type 0 where
  pub status : reply.status ≡ outcome.status
  pub text : reply.text.items ≡ outcome.text

-- what is known of a corpus: its schema, how many callers and items there are, the names of the callers, and what is said of it
pub record Known : Type 0 where
  pub schema : List Property
  pub callers : ℕ
  pub items : ℕ
  pub names : List ℕ → Bool
  pub says : Says

abbrev pub known_of : (Corpus → Says) → Corpus → Known
known_of said_of corpus = record {
  schema = corpus.schema;
  callers = length corpus.callers;
  items = length corpus.items;
  names = knows corpus;
  says = said_of corpus;
}

-- the same, as an engine has it
abbrev pub known_by : {E : Type 0} → Ghosts E → E → Known
known_by meaning engine = record {
  schema = meaning.schema engine;
  callers = meaning.callers engine;
  items = meaning.items engine;
  names = meaning.names engine;
  says = meaning.says engine;
}

-- Each line ends with LF; numbers are decimal.

abbrev pub fault_text : ℕ → ℕ → List ℕ
fault_text code place = codes "fault " ++ (decimal code ++ (codes " at " ++ (decimal place ++ 10 ∷ [])))

abbrev pub corpus_fault_text : ℕ → ℕ → List ℕ
corpus_fault_text code line = codes "corpus fault " ++ (decimal code ++ (codes " line " ++ (decimal line ++ 10 ∷ [])))

abbrev pub check_text : ℕ → ℕ → ℕ → List ℕ
check_text properties callers items =
    codes "ok " ++ (decimal properties ++ (codes " properties " ++ (decimal callers ++ (codes " callers " ++ (decimal items ++ (codes " items" ++ 10 ∷ []))))))

abbrev pub hit_text : Hit → List ℕ
hit_text hit = codes "item " ++ (decimal hit.number ++ (codes " score " ++ (signed_decimal hit.score ++ 10 ∷ [])))

abbrev pub total_text : ℕ → List ℕ
total_text total = codes "total " ++ (decimal total ++ 10 ∷ [])

-- the request of a text alone: the first 500 hits by score, with nothing shown and nothing counted
abbrev pub request_of : Language → List ℕ → Request
request_of language text = record {
  language = language;
  text = text;
  start = 1;
  count = most_hits;
  properties = [];
  refiners = [];
  sorts = [];
  implicit_and = true;
}

abbrev pub refusal : ℕ → ℕ → Printed
refusal code place = record { status = 1; text = fault_text code place }

-- the total of all hits, and a line for each hit of the page; or the fault
abbrev pub answer_outcome : Verdict → Printed
answer_outcome Unknown = refusal 511 0
answer_outcome (Faulty fault) = refusal fault.code fault.at
answer_outcome (NoRefiner i) = refusal 509 i
answer_outcome (NoSort i) = refusal 516 i
answer_outcome Nothing = record { status = 0; text = total_text 0 }
answer_outcome (Shows found) = record { status = 0; text = total_text found.total ++ flat_map hit_text found.hits }

abbrev pub check_outcome : Known → Printed
check_outcome known = record { status = 0; text = check_text (length known.schema) known.callers known.items }

-- the text by itself, or why there is none
abbrev pub lowered_outcome : Outcome (List ℕ) → Printed
lowered_outcome (Ok text) = record { status = 0; text = text ++ 10 ∷ [] }
lowered_outcome (Err fault) = refusal fault.code fault.at

-- 0 for an answer, 1 for a refusal
abbrev pub status_of : Response → ℕ
status_of (response.Found found) = 0
status_of response.Nothing = 0
status_of (response.BadQuery fault) = 1
status_of (response.BadRequest fault) = 1

abbrev pub response_outcome : Response → Printed
response_outcome told = record { status = status_of told; text = response_text told }

-- a corpus or a packet is too long
abbrev pub too_long : Printed
too_long = record { status = 8; text = [] }

-- the response to a packet of anybody
abbrev pub packet_answer : Known → ℤ → List ℕ → List ℕ → Response
packet_answer known moment caller body = if known.names caller then desk_response known.says caller moment body else nobody

-- and what is written, where the packet isn't too long
unfoldable pub packet_outcome : Known → ℤ → List ℕ → List ℕ → Printed
packet_outcome known moment caller body =
    if nat_le (length body) most_packet_bytes then response_outcome (packet_answer known moment caller body) else too_long

-- The bytes that are read as a packet are those that were left, unless there are too many.
abbrev pub ReadsPacket : Option (List ℕ) → Result (Vec ℕ Global) ReadAll → Type 0
ReadsPacket left (Ok read) = IfSome left (λ bytes. bytes ≡ read.items)
ReadsPacket left (Err all.TooLong) = IfSome left (λ bytes. most_packet_bytes < length bytes)
ReadsPacket left (Err all.Fault) = Unit {0}
ReadsPacket left (Err all.NoMemory) = Unit {0}

-- What is written of what is known of a corpus, at a moment. A packet is the input; nothing where it isn't told.
unfoldable pub work_outcome : Known → ℤ → Option (List ℕ) → Work → Option Printed
work_outcome known moment input Checking = Some (check_outcome known)
work_outcome known moment input (Asking caller language text) = Some (answer_outcome (known.says caller moment (request_of language text)))
work_outcome known moment input (Lowering text) = Some (lowered_outcome (lowered_of known.schema moment joiner.All text))
work_outcome known moment input (Packing caller) = option_map (packet_outcome known moment caller) input
