use Rattle.std.proofs.Common.{◌≡◌, sym, ap, ◌∙◌, List, ℕ, Ok, Err, take, drop, length, min, refl, ◌+◌, ◌-◌}
use Rattle.std.proofs.lemmas.List.{take_rest}
use Rattle.sq_head.specs.Head.{head_of}
use Rattle.sq_http.specs.Body.{request_seen}
use Rattle.sq_http.specs.Gathers.{held}
use Rattle.sq_http.specs.Owed.{judged}
use Rattle.sq_http.proofs.HeadLemmas.{job_by, head_taken, head_refused, drop_used}
use Rattle.sq_http.proofs.exchange.with_head.Goals as goal

pub returns-in-Err-clause-exchange : goal.returns-in-Err-clause-exchange
returns-in-Err-clause-exchange g c =
    let answering = g.H.Handler.reply c.args.responder.now.handler.now c.args.responder.now.moment in
    let bytes = held c.args.heads.now in
    let is : judged (head_of (take c.args.size bytes)) ≡ Err c.in-Err.status = ap (λ t. judged (head_of (take c.args.size t))) (sym c.as_slice-bytes.ensures) ∙ c.in-Err.ensures.judged in
    head_refused g.W.Wire answering c.args.last (judged (head_of (take c.args.size bytes))) (drop c.args.size bytes) bytes _ _ _ c.in-Err.status is (c.refused.ensures answering)

pub returns-clause-exchange : goal.returns-clause-exchange
returns-clause-exchange g c =
    let answering = g.H.Handler.reply c.args.responder.now.handler.now c.args.responder.now.moment in
    let bytes = held c.args.heads.now in
    let job = job_by c.in-Ok.job.size c.in-Ok.job.interim c.in-Ok.job.last (request_seen c.in-Ok.job.request) in
    let is : judged (head_of (take c.args.size bytes)) ≡ Ok job = ap (λ t. judged (head_of (take c.args.size t))) (sym c.as_slice-bytes.ensures) ∙ c.in-Ok.ensures.judged in
    let front : take (length c.as_slice-bytes.result.now - c.args.size) (drop c.args.size c.as_slice-bytes.result.now) ≡ drop c.args.size bytes =
    take_rest c.as_slice-bytes.result.now c.args.size ∙ ap (λ (t : List ℕ). drop c.args.size t) c.as_slice-bytes.ensures in
    let taken = c.take_request-result.ensures.exchange in
    head_taken g.W.Wire answering c.args.last (judged (head_of (take c.args.size bytes))) (drop c.args.size bytes) (held c.drop_front.new.self) _ _ _ job _ is refl
    (c.drop_front.ensures.held ∙ drop_used bytes (drop c.args.size bytes) c.args.size c.in-Ok.job.size _ refl
    (ap (λ (n : ℕ). c.args.size + n) c.min.ensures ∙ ap (λ (t : List ℕ). c.args.size + min (length t) c.in-Ok.job.size) front))
    (rw front at taken)
