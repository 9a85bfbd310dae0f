use Rattle.std.proofs.Common.{◌≡◌, ℕ, List, [], Bool, Ok, sym, refl, codes, nat_lt, ◌&&◌, ◌||◌}
use Rattle.std.specs.Prelude.{◌==◌, Some}
use Rattle.std.specs.List.{list_any}
use Rattle.httparse.specs.declared.spans.HeaderSpan.{HeaderSpan}
use Rattle.sq_http.specs.Fields.{values_at}
use Rattle.sq_http.specs.Judge.{head_by}
use Rattle.sq_http.specs.Owed.{Request, judged, length_of, request_of, closes_by, is_word}
use Rattle.sq_http.proofs.HeadLemmas.{job_by}
use Rattle.sq_http.proofs.judge.judge_parts.Goals as goal

judged_by : (method target : List ℕ) (minor : ℕ) (head : List ℕ) (headers : List HeaderSpan) (size : ℕ) (expects closes : Bool) (request : Request)
    → values_at (codes "transfer-encoding") head headers ≡ [] → length_of (values_at (codes "content-length") head headers) ≡ Ok size
    → expects ≡ list_any (is_word (codes "100-continue")) (values_at (codes "expect") head headers) → closes ≡ list_any closes_by (values_at (codes "connection") head headers)
    → request_of (head_by method target minor head headers) ≡ request
    → judged (Some (head_by method target minor head headers)) ≡ Ok (job_by size (((minor == 1) && expects) && nat_lt 0 size) ((minor == 0) || closes) request)
unfolding judged
judged_by method target minor head headers size expects closes request none all e c r = rw (none, all, e, c, sym r) refl

pub returns-in-Ok-clause-judged : goal.returns-in-Ok-clause-judged
returns-in-Ok-clause-judged c =
    judged_by _ _ c.args.minor _ _ _ _ _ _ c.in-None.ensures c.in-Ok.ensures.length c.any_expects-expects.ensures c.any_closes-closes.ensures (c.request_of-request.ensures c.args.minor)
