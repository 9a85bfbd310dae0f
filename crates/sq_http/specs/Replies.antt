-- The texts of what is owed (RFC 9112, sections 4 and 6).
use Rattle.std.specs.Prelude.{ℕ, Bool, true, ◌==◌, if◌then◌else◌, List, [], ◌++◌, flat_map, length, Option, Some, None, decimal, codes}
use Rattle.std.specs.Option.{unwrap_or}
use Rattle.http.specs.StatusCode.{code_digits, reason_phrase}
use Rattle.sq_http.specs.Owed.{Owed, Interim, Refusal, Asking}

-- what a handler answers to a caller and a body: bytes, or nothing
abbrev pub Answering : Type 0
Answering = List ℕ → List ℕ → Option (List ℕ)

-- the reply with a status: for 200 its type, its length, for 405 the method that is allowed, and whether it closes
abbrev pub reply_text : ℕ → Bool → List ℕ → List ℕ
reply_text status closing body =
    codes "HTTP/1.1 " ++ (code_digits status ++ (codes " " ++ (unwrap_or (reason_phrase status) [] ++ (codes "\r\n"
    ++ ((if status == 200 then codes "Content-Type: text/xml; charset=utf-8\r\n" else [])
    ++ (codes "Content-Length: " ++ (decimal (length body) ++ (codes "\r\n"
    ++ ((if status == 405 then codes "Allow: POST\r\n" else [])
    ++ ((if closing then codes "Connection: close\r\n" else [])
    ++ (codes "\r\n" ++ body)))))))))))

-- the reply to a caller and a body, by what the handler answers: nothing is 403
abbrev pub answer_text : Bool → Option (List ℕ) → List ℕ
answer_text closing None = reply_text 403 closing []
answer_text closing (Some body) = reply_text 200 closing body

-- the text of one that is owed
abbrev pub text_of : Answering → Owed → List ℕ
text_of answering Interim = codes "HTTP/1.1 100 Continue\r\n\r\n"
text_of answering (Refusal status closing) = reply_text status closing []
text_of answering (Asking caller body closing) = answer_text closing (answering caller body)

-- the texts of all, joined
abbrev pub texts : Answering → List Owed → List ℕ
texts answering owed = flat_map (text_of answering) owed

-- the text where memory ran out
abbrev pub no_memory_text : List ℕ
no_memory_text = reply_text 503 true []
