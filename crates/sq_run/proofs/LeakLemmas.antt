-- Replies to callers to whom corpora look the same.
use Rattle.std.proofs.Common.{◌≡◌, ℕ, ℤ, List, Ok, Err, is_some, refl, ap}
use Rattle.sq_base.specs.Outcome.{Outcome}
use Rattle.sq_model.specs.declared.corpus.Corpus.{Corpus}
use Rattle.sq_packet.specs.Packet.{packet_of}
use Rattle.sq_packet.specs.declared.request.Request.{Request}
use Rattle.sq_schema.specs.Intervals.{clamped}
use Rattle.sq_engine.specs.Leak.{LooksSame, NothingLeaks}
use Rattle.sq_engine.specs.Verdict.{verdict, knows}
use Rattle.sq_run.specs.Desk.{desk_response, packet_response, response_of}
use Rattle.sq_run.specs.Leak.{NoReplyLeaks}

same_packet : NothingLeaks → (a b : Corpus) (name : List ℕ) (moment : ℤ) (read : Outcome Request) → LooksSame name a b
    → packet_response (verdict a) name moment read ≡ packet_response (verdict b) name moment read
same_packet law a b name moment (Ok request) same = ap response_of (law name a b moment request same)
same_packet law a b name moment (Err fault) same = refl

same_knows : (a b : Corpus) (name : List ℕ) → LooksSame name a b → knows a name ≡ knows b name
same_knows a b name same = ap is_some same.row

pub no_reply_leaks : NothingLeaks → NoReplyLeaks
unfolding desk_response
no_reply_leaks law a b name body moment same =
    let packets : desk_response (verdict a) name (clamped moment) body ≡ desk_response (verdict b) name (clamped moment) body =
    same_packet law a b name (clamped moment) (packet_of body) same in
    rw (same_knows a b name same, packets) refl
