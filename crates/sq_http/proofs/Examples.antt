-- Worked connections, by computation.
use Rattle.std.proofs.Common.{◌≡◌, [], ◌∷◌, ◌++◌, refl, None, true}
use Rattle.std.specs.Prelude.{codes}
use Rattle.std.specs.Str.{is_utf8, chars}
use Rattle.std.specs.Fmt.{digits}
use lib.Utf8.{encode}
use Rattle.httparse.specs.Grammar.{is_token_byte, trim_ows}
use Rattle.sq_http.specs.Cut.{cut}
use Rattle.sq_head.specs.Head.{head_of}
use Rattle.sq_http.specs.Owed.{Interim, Refusal, Asking, owed, step, judged}
use Rattle.sq_http.specs.Replies.{texts}

-- two requests that are refused, of which the second closes
refused : texts (λ caller body. None) (owed (codes "GET /x HTTP/1.1\r\n\r\nGET /query HTTP/1.0\r\n\r\n"))
    ≡ codes "HTTP/1.1 404 Not Found\r\nContent-Length: 0\r\n\r\nHTTP/1.1 405 Method Not Allowed\r\nContent-Length: 0\r\nAllow: POST\r\nConnection: close\r\n\r\n"
unfolding cut head_of step judged is_token_byte trim_ows is_utf8 chars encode digits
refused = refl

-- a body that isn't whole has its interim text alone; the next one is asked, and closes
interim : owed (codes "POST /query HTTP/1.1\r\nX-Search-Caller: \t Ann \r\ncontent-LENGTH: 3\r\nExpect: 100-Continue\r\n\r\nab") ≡ Interim ∷ []
unfolding cut head_of step judged is_token_byte trim_ows is_utf8 chars encode
interim = refl

asked : owed (codes "POST /query HTTP/1.1\r\nX-Search-Caller: \t Ann \r\ncontent-LENGTH: 3\r\nConnection: x , CLOSE\r\n\r\nabcGET") ≡ Asking (codes "Ann") (codes "abc") true ∷ []
unfolding cut head_of step judged is_token_byte trim_ows is_utf8 chars encode
asked = refl

-- 501 before 400 before 413; 400 of an early empty line; one empty line in front
rows : owed (codes "POST /query HTTP/1.1\r\nContent-Length: x\r\nTransfer-Encoding: chunked\r\n\r\n") ++ owed (codes "POST /query HTTP/1.1\r\nContent-Length: 131073\r\n\r\n")
    ++ owed (codes "\r\n\r\n") ++ owed (codes "\r\nPOST /query HTTP/1.1\r\n\r\n") ++ owed (codes "GET / HTTP/1.1\n\nX: y\r\n\r\n")
    ≡ Refusal 501 true ∷ Refusal 413 true ∷ Refusal 400 true ∷ Refusal 411 true ∷ Refusal 400 true ∷ []
unfolding cut head_of step judged is_token_byte trim_ows is_utf8 chars encode
rows = refl
