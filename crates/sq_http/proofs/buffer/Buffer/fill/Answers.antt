use Rattle.std.proofs.Common.{rules, ◌≤◌, sym, refl, length}
use Rattle.std.proofs.lemmas.List.{take-append-le, length-take-le}
use Rattle.sq_http.proofs.GathersLemmas.{gained-same, gained-more, Gathers-failed, Gathers-read}
use Rattle.sq_http.proofs.buffer.Buffer.fill.Goals as goal

pub returns-in_err-count-clause-gathers : goal.returns-in_err-count-clause-gathers
returns-in_err-count-clause-gathers g c =
    rw (gained-same c.args.self.now.bytes.items) (Gathers-failed _ _ _ _ _ _ _ c.in_err-count.ensures.bytes c.in_err-count.ensures.asked)

pub returns-clause-gathers : goal.returns-clause-gathers
returns-clause-gathers g c =
    let few : c.in_ok-count.count ≤ length c.read.new.into = search rules in
    rw (c.push.ensures.held, gained-more, take-append-le c.in_ok-count.count c.read.new.into _ few)
    (Gathers-read _ _ _ _ _ _ c.in_ok-count.count _ refl (sym (length-take-le c.in_ok-count.count c.read.new.into few)) c.in_ok-count.ensures.bytes.0 c.in_ok-count.ensures.asked)
