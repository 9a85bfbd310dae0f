-- What a head asks for, as the code has it.
use Rattle.std.specs.Prelude.{ℕ, List, map, Result, Ok, Err}
use Rattle.httparse.specs.declared.spans.HeaderSpan.{HeaderSpan}
use Rattle.httparse.specs.Spans.{header_bytes}
use Rattle.sq_head.specs.Head.{Head}
use Rattle.sq_http.specs.Body.{request_seen}
use Rattle.sq_http.specs.Owed.{Job}
use Rattle.sq_http.specs.declared.judge.Job as declared

-- a judgement as the definitions have it
abbrev pub judged_seen : Result declared.Job ℕ → Result Job ℕ
judged_seen (Ok job) = Ok (record { length = job.size; interim = job.interim; last = job.last; request = request_seen job.request })
judged_seen (Err status) = Err status

-- the head whose fields these headers cover
abbrev pub head_by : List ℕ → List ℕ → ℕ → List ℕ → List HeaderSpan → Head
head_by method target minor head headers = record { method = method; target = target; minor = minor; fields = map (header_bytes head) headers }
