-- What the parser answers, as the head that is a function of the bytes.
use Rattle.std.proofs.Common.{◌≡◌, ℕ, ◌<◌, ◌≤◌, List, [], length, drop, take, Option, Some, None, refl, sym, ap, subst, append-nil, arith, length-take}
use Rattle.std.proofs.lemmas.List.{drop_all, length-map}
use Rattle.httparse.specs.declared.spans.HeaderSpan.{HeaderSpan}
use Rattle.httparse.specs.declared.spans.RequestSpans.{RequestSpans}
use Rattle.httparse.specs.Grammar.{ReadsRequest, HasNoRequest}
use Rattle.httparse.specs.Spans.{IsRequestOf, RequestOverflows, name_and_value, header_bytes}
use Rattle.httparse.proofs.GrammarLemmas.{request_unique}
use Rattle.sq_head.specs.Head.{Head, head_of, IsHead}
use Rattle.sq_head.specs.Parts.{head_at}
use Rattle.sq_head.proofs.HeadLemmas.{head_sound, head_complete}

-- bytes that are no head
none_by : (bytes : List ℕ) → ((head : Head) → IsHead bytes head → ⊥) → (found : Option Head) → head_of bytes ≡ found → head_of bytes ≡ None
none_by bytes none None is = is
none_by bytes none (Some head) is = absurd (none head (head_sound bytes head is))

pub no_head : (bytes : List ℕ) → ((head : Head) → IsHead bytes head → ⊥) → head_of bytes ≡ None
no_head bytes none = none_by bytes none (head_of bytes) refl

pub partial_head : (bytes : List ℕ) → HasNoRequest bytes → head_of bytes ≡ None
partial_head bytes none = no_head bytes (λ head h. none h.tree [] h.reads)

pub refused_head : (bytes : List ℕ) → RequestOverflows 64 bytes → head_of bytes ≡ None
refused_head bytes over = no_head bytes (λ head h.
    let more : 64 < length h.tree.fields = over [] h.tree [] (subst (λ (t : List ℕ). ReadsRequest t h.tree []) (sym (append-nil bytes)) h.reads) in
    omega (arith, more, h.few))

module _ (bytes : List ℕ) (headers : List HeaderSpan) (spans : RequestSpans) (is : IsRequestOf bytes headers spans) where
  -- a head in front of other bytes
  pub early_head : (length (drop spans.len bytes) ≡ 0 → ⊥) → head_of bytes ≡ None
  early_head more = no_head bytes (λ head h. more (ap length (request_unique bytes is.0 h.tree (drop spans.len bytes) [] is.1.reads h.reads).1))

  pub whole_head : spans.len ≡ length bytes → length is.0.fields ≤ 64 → head_of bytes ≡ Some (head_at bytes headers spans)
  whole_head all few = head_complete bytes (head_at bytes headers spans) (record {
    tree = is.0;
    reads = subst (λ (t : List ℕ). ReadsRequest bytes is.0 t) (drop_all spans.len bytes (omega (arith, all))) is.1.reads;
    few = few;
    parts = cc (is.1.method, is.1.path, is.1.version, is.1.fields);
  })

  pub few_fields : length headers ≤ 64 → length is.0.fields ≤ 64
  few_fields room =
      let same = ap length is.1.fields in
      omega (arith, same, length-map (take spans.headers headers) (header_bytes bytes), length-map is.0.fields name_and_value, length-take spans.headers headers, room)
