-- One text sent after another.
use Rattle.std.proofs.Common.{◌≡◌, ℕ, ◌+◌, ◌≤◌, List, [], ◌++◌, length, take, drop, Option, refl, sym, ap, subst, ◌∙◌, append-nil, arith, Result, Ok, Err, min, flat_map, get_or, ◌<◌, OnOk, OnErr}
use Rattle.std.specs.Prelude.{Bool, ◌==◌, if◌then◌else◌, decimal, codes}
use Rattle.std.specs.Option.{unwrap_or}
use Rattle.http.specs.StatusCode.{code_digits, reason_phrase}
use Rattle.sq_http.specs.Replies.{reply_text}
use Rattle.std.specs.Io.KnownBytes.{Appends}
use Rattle.std.proofs.Math.Seq.{take-append-add}
use Rattle.std.proofs.lemmas.List.{take_min, take-append-le, take_more, take-append-drop, flat_map_more}
use Rattle.std.proofs.lemmas.List.Concat.{flat_map-append}
use Rattle.sq_base.specs.declared.faults.Failed.{Failed}
use Rattle.sq_base.specs.declared.wire.Wire.{Ghosts}
use Rattle.sq_base.specs.Bytes.{AppendsPrefix}
use Rattle.sq_base.specs.Causes.{Rose, HasCause}
use Rattle.sq_http.proofs.KnownLemmas.{Appends-append, Appends-nothing}
use Rattle.sq_http.specs.Puts.{SentBy, Puts}

pub prefix_after : (a b c : Option (List ℕ)) (xs ys : List ℕ) → Appends a b xs → AppendsPrefix b c ys → AppendsPrefix a c (xs ++ ys)
prefix_after a b c xs ys first second =
    (length xs + second.0, subst (Appends a c) (sym (take-append-add xs ys second.0)) (Appends-append a b c xs (take second.0 ys) first second.1))

pub prefix_longer : (a c : Option (List ℕ)) (xs ys : List ℕ) → AppendsPrefix a c xs → AppendsPrefix a c (xs ++ ys)
prefix_longer a c xs ys h =
    let few : min h.0 (length xs) ≤ length xs = omega arith in
    (min h.0 (length xs), subst (Appends a c) (sym (take-append-le (min h.0 (length xs)) xs ys few ∙ take_min h.0 xs)) h.1)

module _ {W : Type 0} (wire : Ghosts W) where
  pub Puts-none : {T : Type 0} (w : W) (done : T) → Puts {T = T} wire [] w w (Ok done)
  Puts-none w done = record {
    sent = Appends-nothing (wire.sent w);
    cause = record { later = omega arith; failed = tt };
    asked = refl;
    left = refl;
    read_faults = refl;
  }

  sent_more : {U : Type 0} (a b c : Option (List ℕ)) (xs ys : List ℕ) (result : Result U Failed) → Appends a b xs → SentBy result b c ys → SentBy result a c (xs ++ ys)
  sent_more a b c xs ys (Ok done) first second = Appends-append a b c xs ys first second
  sent_more a b c xs ys (Err failed) first second = prefix_after a b c xs ys first second

  rose_more : {U : Type 0} (a b c : ℕ) (result : Result U Failed) → a ≤ b → HasCause b c result → HasCause a c result
  rose_more a b c (Ok done) h cause = record { later = omega (arith, h, cause.later); failed = tt }
  rose_more a b c (Err failed) h cause = let rose : Rose b c = cause.failed in record { later = omega (arith, h, cause.later); failed = omega (arith, h, rose) }

  pub Puts-more : {T U : Type 0} (xs ys : List ℕ) (old mid new : W) (done : T) (result : Result U Failed) → Puts {T = T} wire xs old mid (Ok done) → Puts wire ys mid new result → Puts wire (xs ++ ys) old new result
  Puts-more xs ys old mid new done result first second = record {
    sent = sent_more (wire.sent old) (wire.sent mid) (wire.sent new) xs ys result first.sent second.sent;
    cause = rose_more (wire.write_faults old) (wire.write_faults mid) (wire.write_faults new) result first.cause.later second.cause;
    asked = second.asked ∙ first.asked;
    left = second.left ∙ first.left;
    read_faults = second.read_faults ∙ first.read_faults;
  }

  pub Puts-longer : {T : Type 0} (xs ys : List ℕ) (old new : W) (failed : Failed) → Puts {T = T} wire xs old new (Err failed) → Puts {T = T} wire (xs ++ ys) old new (Err failed)
  Puts-longer xs ys old new failed puts = record {
    sent = prefix_longer (wire.sent old) (wire.sent new) xs ys puts.sent;
    cause = puts.cause;
    asked = puts.asked;
    left = puts.left;
    read_faults = puts.read_faults;
  }

pub sent_by : {T : Type 0} (result : Result T Failed) (before after : Option (List ℕ)) (text : List ℕ) → OnOk result (Appends before after text) → OnErr result (AppendsPrefix before after text)
    → SentBy result before after text
sent_by (Ok done) before after text all part = all
sent_by (Err failed) before after text all part = part

module _ {X : Type 0} (text_of : X → List ℕ) (xs : List X) (i : ℕ) (d : X) (within : i < length xs) where
  pub flat_next : flat_map text_of (take i xs) ++ text_of (get_or xs i d) ≡ flat_map text_of (take (i + 1) xs)
  flat_next = flat_map_more text_of [] (take i xs) (get_or xs i d) ∙ ap (flat_map text_of) (sym (take_more xs i d within))

  pub flat_rest : flat_map text_of xs ≡ flat_map text_of (take (i + 1) xs) ++ flat_map text_of (drop (i + 1) xs)
  flat_rest = ap (flat_map text_of) (sym (take-append-drop (i + 1) xs)) ∙ flat_map-append text_of (take (i + 1) xs) (drop (i + 1) xs)

  -- a part that could not be sent whole
  pub Puts-stopped : {W T U : Type 0} (wire : Ghosts W) (old mid new : W) (done : T) (failed : Failed) → Puts wire (flat_map text_of (take i xs)) old mid (Ok done)
      → Puts {T = U} wire (text_of (get_or xs i d)) mid new (Err failed) → Puts {T = U} wire (flat_map text_of xs) old new (Err failed)
  Puts-stopped {W} {T} {U} wire old mid new done failed first second =
      subst (λ (t : List ℕ). Puts {T = U} wire t old new (Err failed)) (ap (λ t. t ++ flat_map text_of (drop (i + 1) xs)) flat_next ∙ sym flat_rest)
      (Puts-longer wire (flat_map text_of (take i xs) ++ text_of (get_or xs i d)) (flat_map text_of (drop (i + 1) xs)) old new failed
      (Puts-more wire (flat_map text_of (take i xs)) (text_of (get_or xs i d)) old mid new done (Err failed) first second))

-- a reply from its parts
pub reply_parts : (status : ℕ) (closing : Bool) (digits reason kind size allowed close body : List ℕ) → digits ≡ code_digits status → reason ≡ unwrap_or (reason_phrase status) []
    → kind ≡ (if status == 200 then codes "Content-Type: text/xml; charset=utf-8\r\n" else []) → size ≡ decimal (length body)
    → allowed ≡ (if status == 405 then codes "Allow: POST\r\n" else []) → close ≡ (if closing then codes "Connection: close\r\n" else [])
    → codes "HTTP/1.1 " ++ (digits ++ (codes " " ++ (reason ++ (codes "\r\n" ++ (kind ++ (codes "Content-Length: " ++ (size ++ (codes "\r\n" ++ (allowed ++ (close ++ (codes "\r\n" ++ (body ++ []))))))))))))
    ≡ reply_text status closing body
reply_parts status closing digits reason kind size allowed close body d p k s a c = rw (d, p, k, s, a, c, append-nil body) refl
