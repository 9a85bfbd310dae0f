-- What a connection owes for its bytes, whoever answers: HTTP/1.1 (RFC 9112, fields by RFC 9110) with the one route POST /query. The bytes are
-- cut into requests, each request owes the reply of the first rule that fits, and what is owed is a list of texts still without their letters.
use Rattle.std.specs.Prelude.{ℕ, zero, suc, Bool, true, false, not, ◌&&◌, ◌||◌, ◌==◌, if◌then◌else◌, nat_lt, nat_le, List, [], ◌∷◌, ◌++◌, map, filter, length, take, drop, Option, Some, None, Result, Ok, Err, codes}
use Rattle.std.specs.List.{list_all, list_any}
use Rattle.std.specs.Char.{is_ascii_digit, to_ascii_lowercase}
use Rattle.std.specs.Str.{bytes_eq}
use Rattle.std.specs.Str.Parse.{digits_value}
use Rattle.sq_base.specs.Limits.{most_digits, most_packet_bytes}
use Rattle.httparse.specs.Grammar.{trim_ows}
use Rattle.sq_http.specs.Cut.{Cut, Waiting, TooLong, Whole, cut}
use Rattle.sq_http.specs.Limits.{most_requests}
use Rattle.sq_head.specs.Head.{Head, head_of}

-- one text that is owed: the interim text, a refusal with its status, or the reply to a caller and a body
pub data Owed : Type 0 where
  Interim : Owed
  Refusal : ℕ → Bool → Owed
  Asking : List ℕ → List ℕ → Bool → Owed

-- ---- what a head asks for

-- a text is the word, which is given in lower case, in any ASCII case
abbrev pub is_word : List ℕ → List ℕ → Bool
is_word word text = bytes_eq (map to_ascii_lowercase text) word

-- the values of the fields of a name, which is given in lower case
abbrev pub values : List ℕ → Head → List (List ℕ)
values name head = map (λ field. field.1) (filter (λ field. is_word name field.0) head.fields)

abbrev pub onto_first : ℕ → List (List ℕ) → List (List ℕ)
onto_first b [] = (b ∷ []) ∷ []
onto_first b (part ∷ parts) = (b ∷ part) ∷ parts

-- the members of a list between commas
abbrev pub members : List ℕ → List (List ℕ)
members [] = [] ∷ []
members (b ∷ bytes) = if b == 44 then [] ∷ members bytes else onto_first b (members bytes)

-- a Connection field has the member `close` (RFC 9110, section 7.6.1)
abbrev pub closes_by : List ℕ → Bool
closes_by value = list_any (λ member. is_word (codes "close") (trim_ows member)) (members value)

-- A reply to this head closes, whatever it is: it is of version 1.0, or one of its Connection fields says so.
abbrev pub is_last : Head → Bool
is_last head = (head.minor == 0) || list_any closes_by (values (codes "connection") head)

-- the head asks for the interim text (RFC 9110, section 10.1.1)
abbrev pub expects : Head → Bool
expects head = (head.minor == 1) && list_any (is_word (codes "100-continue")) (values (codes "expect") head)

-- one to ten digits
abbrev pub is_length : List ℕ → Bool
is_length value = nat_lt 0 (length value) && nat_le (length value) most_digits && list_all is_ascii_digit value

-- the length of the body by the Content-Length fields, or the status of its refusal: two fields, or one that is no length, are 400, and more than
-- 131,072 bytes are 413
abbrev pub length_of : List (List ℕ) → Result ℕ ℕ
length_of [] = Ok 0
length_of (value ∷ []) =
    if is_length value then (if nat_le (digits_value 10 value) most_packet_bytes then Ok (digits_value 10 value) else Err 413) else Err 400
length_of (value ∷ (other ∷ more)) = Err 400

-- who asks, or the status of a refusal and whether it closes
pub data Request : Type 0 where
  Refused : ℕ → Bool → Request
  Asks : List ℕ → Request

abbrev pub is_none : {A : Type 0} → List A → Bool
is_none [] = true
is_none (x ∷ xs) = false

-- exactly one X-Search-Caller field, which isn't empty, says who asks
abbrev pub by_caller : List (List ℕ) → Request
by_caller (name ∷ []) = if is_none name then Refused 400 false else Asks name
by_caller names = Refused 400 false

-- of the target, the method, the length and the caller the first that is wrong is answered
abbrev pub request_of : Head → Request
request_of head =
    if not (bytes_eq head.target (codes "/query")) then Refused 404 false
    else (if not (bytes_eq head.method (codes "POST")) then Refused 405 false
    else (if is_none (values (codes "content-length") head) then Refused 411 true
    else by_caller (values (codes "x-search-caller") head)))

-- what is known of a request when its head has come: the length of its body, whether the interim text goes out before the body is read, whether
-- its reply closes in any case, and who asks
pub record Job : Type 0 where
  pub length : ℕ
  pub interim : Bool
  pub last : Bool
  pub request : Request

abbrev pub job_of : Head → Result ℕ ℕ → Result Job ℕ
job_of head (Err status) = Err status
job_of head (Ok n) = Ok (record { length = n; interim = expects head && nat_lt 0 n; last = is_last head; request = request_of head })

-- The head is no head (400), has a Transfer-Encoding (501), or is judged by its length. These refusals close, and no body is read.
unfoldable pub judged : Option Head → Result Job ℕ
judged None = Err 400
judged (Some head) =
    if not (is_none (values (codes "transfer-encoding") head)) then Err 501 else job_of head (length_of (values (codes "content-length") head))

-- ---- what is owed

-- the last text that is owed to a request, once its body has come
abbrev pub answer_to : Request → Bool → List ℕ → Owed
answer_to (Refused status closes) last body = Refusal status (closes || last)
answer_to (Asks caller) last body = Asking caller body last

-- a text after which the connection closes
abbrev pub closes : Owed → Bool
closes Interim = false
closes (Refusal status closing) = closing
closes (Asking caller body closing) = closing

-- the interim text, where the job has one
abbrev pub interim_of : Job → List Owed
interim_of job = if job.interim then Interim ∷ [] else []

-- what one request leaves: it isn't whole, the connection closes, or it goes on with these bytes
pub data Step : Type 0 where
  Open : List Owed → Step
  Closed : List Owed → Step
  Goes : List Owed → List ℕ → Step

-- after these texts the connection closes, or goes on with these bytes
abbrev pub step_on : Bool → List Owed → List ℕ → Step
step_on closing owed rest = if closing then Closed owed else Goes owed rest

abbrev pub step_answered : List Owed → Owed → List ℕ → Step
step_answered before answer rest = step_on (closes answer) (before ++ answer ∷ []) rest

-- a request whose head has come, by the bytes behind the head: it waits for its body, or it is answered
abbrev pub step_body : Bool → Job → List ℕ → Step
step_body final job rest =
    if nat_lt (length rest) job.length then Open (interim_of job)
    else step_answered (interim_of job) (answer_to job.request (job.last || final) (take job.length rest)) (drop job.length rest)

-- a request by the judgement of its head
abbrev pub step_judged : Bool → Result Job ℕ → List ℕ → Step
step_judged final (Err status) rest = Closed (Refusal status true ∷ [])
step_judged final (Ok job) rest = step_body final job rest

-- a request by the cut of its head; one that is too long is 431
abbrev pub step_cut : Bool → Cut → Step
step_cut final Waiting = Open []
step_cut final TooLong = Closed (Refusal 431 true ∷ [])
step_cut final (Whole head rest) = step_judged final (judged (head_of head)) rest

-- the first request of the bytes; `final` says that it is the last one that is answered
unfoldable pub step : Bool → List ℕ → Step
step final bytes = step_cut final (cut bytes)

-- what a step owes, and then what the bytes behind it owe
abbrev pub after : Step → (List ℕ → List Owed) → List Owed
after (Open owed) next = owed
after (Closed owed) next = owed
after (Goes owed rest) next = owed ++ next rest

-- what is owed for the bytes where so many requests may still be answered
abbrev pub owed_from : ℕ → List ℕ → List Owed
owed_from zero bytes = []
owed_from (suc left) bytes = after (step (left == 0) bytes) (owed_from left)

-- what a connection owes for all its bytes; so many requests are answered
abbrev pub owed : List ℕ → List Owed
owed bytes = owed_from most_requests bytes
