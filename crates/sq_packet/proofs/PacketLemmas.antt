-- What a packet is, from what its parts are.
use Rattle.std.proofs.Common.{◌≡◌, ℕ, suc, ◌∙◌, Bool, if◌then◌else◌, List, length, chars, None, Ok, Err, sym, ap, IsUtf8}
use Rattle.std.proofs.lemmas.Bool.{false_from_ne_true}
use Rattle.std.proofs.lemmas.Str.{IsUtf8-from_is_utf8, is_utf8-from_IsUtf8}
use Rattle.std.specs.Str.{is_utf8}
use Rattle.std.specs.Str.Lossy.{utf8_valid_len}
use Rattle.sq_base.specs.declared.faults.QueryFault.{QueryFault}
use Rattle.sq_base.specs.Outcome.{Outcome, refused, ◌>>=◌}
use Rattle.sq_packet.specs.declared.mark.Mark.{Mark}
use Rattle.sq_packet.specs.declared.draft.Draft.{Draft}
use Rattle.sq_packet.specs.Marks.{marks_from}
use Rattle.sq_packet.specs.Packet.{state, nothing_read, read_on, behind_order_mark, behind_declaration, packet_from, packet_of}

pub packet_is : (end : ℕ) (ms marked rest : List Mark) (turns : ℕ) (start draft : Draft) → marked ≡ behind_order_mark ms → behind_declaration end marked ≡ Ok rest
    → turns ≡ suc (length ms) → start ≡ nothing_read → read_on turns end (state rest None start) ≡ Ok draft → packet_from end ms ≡ Ok draft.request
packet_is end ms marked rest turns start draft order declared same begun read =
    ap (λ (o : Outcome (List Mark)). o >>= (λ (r : List Mark). read_on (suc (length ms)) end (state r None nothing_read) >>= (λ (d : Draft). Ok d.request)))
    (ap (behind_declaration end) (sym order) ∙ declared)
    ∙ ap (λ (o : Outcome Draft). o >>= (λ (d : Draft). Ok d.request))
    (ap (λ (n : ℕ). read_on n end (state rest None nothing_read)) (sym same) ∙ (ap (λ (d : Draft). read_on turns end (state rest None d)) (sym begun) ∙ read))

abbrev pub fault_at : ℕ → QueryFault
fault_at at = record { code = 501; at = at }

pub packet_bad : (bytes : List ℕ) → (IsUtf8 bytes → ⊥) → packet_of bytes ≡ Err (fault_at (utf8_valid_len bytes))
unfolding packet_of
packet_bad bytes bad =
    ap (λ (b : Bool). if b then packet_from (length bytes) (marks_from 0 (chars bytes)) else refused 501 (utf8_valid_len bytes))
    (false_from_ne_true (is_utf8 bytes) (λ yes. bad (IsUtf8-from_is_utf8 bytes yes)))

pub packet_good : (bytes : List ℕ) → IsUtf8 bytes → packet_of bytes ≡ packet_from (length bytes) (marks_from 0 (chars bytes))
unfolding packet_of
packet_good bytes good =
    ap (λ (b : Bool). if b then packet_from (length bytes) (marks_from 0 (chars bytes)) else refused 501 (utf8_valid_len bytes)) (is_utf8-from_IsUtf8 bytes good)
