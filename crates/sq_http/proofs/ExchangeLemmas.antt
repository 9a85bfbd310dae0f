-- One exchange from its parts: reads in front, a text in front, and the reply as the base.
use Rattle.std.proofs.Common.{◌≡◌, ℕ, ◌+◌, ◌-◌, ◌≤◌, Bool, true, false, List, [], ◌∷◌, ◌++◌, length, Option, Some, None, refl, sym, ap, subst, ◌∙◌, append_assoc, append-nil, inl, inr, arith, length-append, Result, Ok, Err}
use Rattle.std.specs.Prelude.{◌⊎◌, not}
use Rattle.std.specs.Io.KnownBytes.{Appends, Consumes, IsAtEnd}
use Rattle.sq_base.specs.declared.faults.Failed.{Failed}
use Rattle.sq_base.specs.declared.faults.Ended.{Ended}
use Rattle.sq_base.specs.declared.faults.Ended.TheVariants.{Finished, ReadFault, WriteFault, NoMemory}
use Rattle.sq_base.specs.declared.wire.Wire.{Ghosts}
use Rattle.sq_base.specs.Causes.{Rose, HasCause}
use Rattle.sq_base.specs.Bytes.{AppendsPrefix}
use Rattle.sq_http.proofs.KnownLemmas.{Consumes-append, Consumes-nothing, Appends-append, Appends-nothing}
use Rattle.sq_http.specs.Puts.{Puts, SentBy}
use Rattle.sq_http.proofs.PutsLemmas.{prefix_after, prefix_longer}
use Rattle.sq_http.specs.Owed.{Owed, Asking, Step, Open, Closed, Goes, closes, step_on, step_answered}
use Rattle.sq_http.specs.Replies.{Answering, texts, text_of, no_memory_text}
use Rattle.sq_http.specs.Served.{GivesUpIn, HasFault}
use Rattle.sq_http.specs.Gathers.{Latest, Asked, Gathers}
use Rattle.sq_http.specs.Exchange.{owed_of, Leads, SendsOf, AskedOpen, AskedIn, FaultOf, ExchangeBy, behind, Told, told_of, RepliesTo}

fault_from : (a b c d e f : ℕ) (how : Ended) → a ≤ b → d ≤ e → HasFault b c e f how → HasFault a c d f how
fault_from a b c d e f Finished h g fault = tt
fault_from a b c d e f ReadFault h g fault = let rose : Rose b c = fault in omega (arith, h, rose)
fault_from a b c d e f WriteFault h g fault = let rose : Rose e f = fault in omega (arith, g, rose)
fault_from a b c d e f NoMemory h g fault = tt

fault_later : (a b c d e f : ℕ) (result : Result Bool Ended) → a ≤ b → d ≤ e → FaultOf b c e f result → FaultOf a c d f result
fault_later a b c d e f (Ok goes) h g fault = tt
fault_later a b c d e f (Err how) h g fault = fault_from a b c d e f how h g fault

-- ---- reads in front

module _ (answering : Answering) (IsOpen : List ℕ → Type 0) (f : List ℕ → Step) (opens : (first : List ℕ) → IsOpen first → f first ≡ Open []) where
  open_latest : (got more : List ℕ) (to_come gone : ℕ) (asked after : Option (ℕ × ℕ)) → more ≡ [] → after ≡ asked → Latest IsOpen to_come gone asked got
      → AskedOpen answering f (got ++ more) to_come gone after
  open_latest got more to_come gone asked after none same last = record {
    first = last.first;
    second = last.second;
    split = ap (λ t. got ++ t) none ∙ append-nil got ∙ last.split;
    some = last.some;
    opening = [];
    is_open = opens last.first last.opened;
    noted = same ∙ last.noted ∙ ap (λ (n : ℕ). Some (to_come - length last.first, n)) (omega arith);
    later = owed_of (f (got ++ more));
    goes_on = refl;
  }

  module _ (g : List ℕ → Step) (got two : List ℕ) (goes : (more : List ℕ) → f (got ++ more) ≡ g more) where
    later_open : (to_come mid gone : ℕ) (asked : Option (ℕ × ℕ)) → mid ≡ to_come - length got → AskedOpen answering g two mid gone asked
        → AskedOpen answering f (got ++ two) to_come gone asked
    later_open to_come mid gone asked is o = record {
      first = got ++ o.first;
      second = o.second;
      split = ap (λ t. got ++ t) o.split ∙ sym (append_assoc got o.first o.second);
      some = o.some;
      opening = o.opening;
      is_open = goes o.first ∙ o.is_open;
      noted = o.noted ∙ ap (λ (n : ℕ). Some (n, gone + length (texts answering o.opening))) (omega (arith, is, length-append got o.first));
      later = o.later;
      goes_on = ap owed_of (goes two) ∙ o.goes_on;
    }

    asked_by : (to_come mid gone : ℕ) (a b c : Option (ℕ × ℕ)) → mid ≡ to_come - length got → ((got ≡ []) × (b ≡ a)) ⊎ Latest IsOpen to_come gone b got
        → ((two ≡ []) × (c ≡ b)) ⊎ AskedOpen answering g two mid gone c → ((got ++ two ≡ []) × (c ≡ a)) ⊎ AskedOpen answering f (got ++ two) to_come gone c
    asked_by to_come mid gone a b c is first (inr o) = inr (later_open to_come mid gone c is o)
    asked_by to_come mid gone a b c is (inl none) (inl end) = inl (ap (λ t. t ++ two) none.0 ∙ end.0, end.1 ∙ none.1)
    asked_by to_come mid gone a b c is (inr last) (inl end) = inr (open_latest got two to_come gone b c end.0 end.1 last)

    asked_first : (left left_mid sent : Option (List ℕ)) (a b c : Option (ℕ × ℕ)) → Consumes left left_mid got → Asked IsOpen left sent a b got
        → AskedIn answering g two left_mid sent b c → AskedIn answering f (got ++ two) left sent a c
    asked_first None left_mid sent a b c consumed first second = tt
    asked_first (Some xs) None sent a b c consumed first second = absurd consumed
    asked_first (Some xs) (Some ys) None a b c consumed first second = tt
    asked_first (Some xs) (Some ys) (Some us) a b c consumed first second =
        asked_by (length xs) (length ys) (length us) a b c (omega (arith, ap length consumed, length-append got ys)) first second

  asked_only : (got : List ℕ) (left sent : Option (List ℕ)) (a b : Option (ℕ × ℕ)) → Asked IsOpen left sent a b got → AskedIn answering f got left sent a b
  asked_only got None sent a b first = tt
  asked_only got (Some xs) None a b first = tt
  asked_only got (Some xs) (Some us) a b (inl none) = inl none
  asked_only got (Some xs) (Some us) a b (inr last) =
      inr (subst (λ (t : List ℕ). AskedOpen answering f t (length xs) (length us) b) (append-nil got) (open_latest got [] (length xs) (length us) b b refl refl last))

module _ {W : Type 0} (wire : Ghosts W) (answering : Answering) (IsOpen : List ℕ → Type 0) (f : List ℕ → Step) (opens : (first : List ℕ) → IsOpen first → f first ≡ Open []) (got held : List ℕ)
    (old mid : W) (reads : Gathers IsOpen (wire.left old) (wire.left mid) (wire.sent old) (wire.asked old) (wire.asked mid) got) (same : wire.sent mid ≡ wire.sent old)
    (later : wire.read_faults old ≤ wire.read_faults mid) (unfailed : wire.write_faults mid ≡ wire.write_faults old) where
  -- and then what these bytes leave
  pub reads_first : (g : List ℕ → Step) (new : W) (result : Result Bool Ended) → ((more : List ℕ) → f (got ++ more) ≡ g more)
      → ExchangeBy wire answering g held mid new result → ExchangeBy wire answering f held old new result
  reads_first g new result goes e = record {
    got = got ++ e.got;
    consumed = Consumes-append (wire.left old) (wire.left mid) (wire.left new) got e.got reads.consumed e.consumed;
    leads = subst (λ (s : Step). Leads s held (wire.left new) result) (sym (goes e.got)) e.leads;
    sent = subst (λ (s : Step). SendsOf answering (owed_of s) (wire.sent old) (wire.sent new) result) (sym (goes e.got))
        (subst (λ (s : Option (List ℕ)). SendsOf answering (owed_of (g e.got)) s (wire.sent new) result) same e.sent);
    asked = asked_first answering IsOpen f opens g got e.got goes (wire.left old) (wire.left mid) (wire.sent old) (wire.asked old) (wire.asked mid) (wire.asked new)
        reads.consumed reads.asked (subst (λ (s : Option (List ℕ)). AskedIn answering g e.got (wire.left mid) s (wire.asked mid) (wire.asked new)) same e.asked);
    fault = fault_later (wire.read_faults old) (wire.read_faults mid) (wire.read_faults new) (wire.write_faults old) (wire.write_faults mid) (wire.write_faults new) result
        later (omega (arith, unfailed)) e.fault;
    later = (omega (arith, later, e.later.0), omega (arith, unfailed, e.later.1));
  }

  nothing_sent : f got ≡ Open [] → Appends (wire.sent old) (wire.sent mid) (texts answering (owed_of (f got)))
  nothing_sent is = subst (λ (s : Step). Appends (wire.sent old) (wire.sent mid) (texts answering (owed_of s))) (sym is)
      (subst (λ (s : Option (List ℕ)). Appends (wire.sent old) s []) (sym same) (Appends-nothing (wire.sent old)))

  -- the input ended
  pub read_ended : f got ≡ Open [] → IsAtEnd (wire.left mid) → ExchangeBy wire answering f held old mid (Err Finished)
  read_ended is end = record {
    got = got;
    consumed = reads.consumed;
    leads = (([], is), end);
    sent = nothing_sent is;
    asked = asked_only answering IsOpen f opens got (wire.left old) (wire.sent old) (wire.asked old) (wire.asked mid) reads.asked;
    fault = tt;
    later = (later, omega (arith, unfailed));
  }

  -- a read failed
  pub read_failed : f got ≡ Open [] → Rose (wire.read_faults old) (wire.read_faults mid) → ExchangeBy wire answering f held old mid (Err ReadFault)
  read_failed is rose = record {
    got = got;
    consumed = reads.consumed;
    leads = ([], is);
    sent = nothing_sent is;
    asked = asked_only answering IsOpen f opens got (wire.left old) (wire.sent old) (wire.asked old) (wire.asked mid) reads.asked;
    fault = rose;
    later = (later, omega (arith, unfailed));
  }

-- ---- a text in front

behind_owed : (one : Owed) (s : Step) → owed_of (behind one s) ≡ one ∷ owed_of s
behind_owed one (Open owed) = refl
behind_owed one (Closed owed) = refl
behind_owed one (Goes owed rest) = refl

leads_behind : (one : Owed) (s : Step) (held : List ℕ) (left : Option (List ℕ)) (result : Result Bool Ended) → Leads s held left result → Leads (behind one s) held left result
leads_behind one s held left (Ok true) h = (one ∷ h.0, ap (behind one) h.1)
leads_behind one s held left (Ok false) h = (one ∷ h.0, ap (behind one) h.1)
leads_behind one s held left (Err Finished) h = ((one ∷ h.0.0, ap (behind one) h.0.1), h.1)
leads_behind one s held left (Err ReadFault) h = (one ∷ h.0, ap (behind one) h.1)
leads_behind one s held left (Err WriteFault) h = tt
leads_behind one s held left (Err NoMemory) h = tt

module _ (answering : Answering) (one : Owed) where
  gives_behind : (all : List Owed) (text : List ℕ) → GivesUpIn answering all text → GivesUpIn answering (one ∷ all) (text_of answering one ++ text)
  gives_behind all text g = (one ∷ g.0, g.1, g.2, g.3, g.4, ap (λ t. one ∷ t) g.5, ap (λ t. text_of answering one ++ t) g.6 ∙ sym (append_assoc (text_of answering one) (texts answering g.0) no_memory_text))

  sends_behind : (all : List Owed) (a b c : Option (List ℕ)) (result : Result Bool Ended) → Appends a b (text_of answering one) → SendsOf answering all b c result → SendsOf answering (one ∷ all) a c result
  sends_behind all a b c (Ok goes) first second = Appends-append a b c (text_of answering one) (texts answering all) first second
  sends_behind all a b c (Err Finished) first second = Appends-append a b c (text_of answering one) (texts answering all) first second
  sends_behind all a b c (Err ReadFault) first second = Appends-append a b c (text_of answering one) (texts answering all) first second
  sends_behind all a b c (Err WriteFault) first (text, inl whole, sent) = (text_of answering one ++ text, inl (ap (λ t. text_of answering one ++ t) whole), prefix_after a b c (text_of answering one) text first sent)
  sends_behind all a b c (Err WriteFault) first (text, inr gives, sent) = (text_of answering one ++ text, inr (gives_behind all text gives), prefix_after a b c (text_of answering one) text first sent)
  sends_behind all a b c (Err NoMemory) first (text, gives, sent) = (text_of answering one ++ text, gives_behind all text gives, Appends-append a b c (text_of answering one) text first sent)

  module _ (f g : List ℕ → Step) (goes : (more : List ℕ) → f more ≡ behind one (g more)) (got : List ℕ) where
    owed_behind : owed_of (f got) ≡ one ∷ owed_of (g got)
    owed_behind = ap owed_of (goes got) ∙ behind_owed one (g got)

    open_behind : (to_come gone gone_mid : ℕ) (asked : Option (ℕ × ℕ)) → gone_mid ≡ gone + length (text_of answering one) → AskedOpen answering g got to_come gone_mid asked
        → AskedOpen answering f got to_come gone asked
    open_behind to_come gone gone_mid asked is o = record {
      first = o.first;
      second = o.second;
      split = o.split;
      some = o.some;
      opening = one ∷ o.opening;
      is_open = goes o.first ∙ ap (behind one) o.is_open;
      noted = o.noted ∙ ap (λ (n : ℕ). Some (to_come - length o.first, n)) (omega (arith, is, length-append (text_of answering one) (texts answering o.opening)));
      later = o.later;
      goes_on = owed_behind ∙ ap (λ t. one ∷ t) o.goes_on;
    }

    asked_behind : (left sent sent_mid : Option (List ℕ)) (a b : Option (ℕ × ℕ)) → Appends sent sent_mid (text_of answering one) → AskedIn answering g got left sent_mid a b → AskedIn answering f got left sent a b
    asked_behind None sent sent_mid a b appends asks = tt
    asked_behind (Some xs) None sent_mid a b appends asks = tt
    asked_behind (Some xs) (Some us) None a b appends asks = absurd appends
    asked_behind (Some xs) (Some us) (Some vs) a b appends (inl none) = inl none
    asked_behind (Some xs) (Some us) (Some vs) a b appends (inr o) =
        inr (open_behind (length xs) (length us) (length vs) b (omega (arith, ap length appends, length-append us (text_of answering one))) o)

asked_none : (answering : Answering) (f : List ℕ → Step) (left sent : Option (List ℕ)) (a b : Option (ℕ × ℕ)) → b ≡ a → AskedIn answering f [] left sent a b
asked_none answering f None sent a b same = tt
asked_none answering f (Some xs) None a b same = tt
asked_none answering f (Some xs) (Some us) a b same = inl (refl, same)

module _ {W : Type 0} (wire : Ghosts W) (answering : Answering) (one : Owed) (f g : List ℕ → Step) (goes : (more : List ℕ) → f more ≡ behind one (g more)) (held : List ℕ) (old mid : W) where
  -- and then what is owed behind it
  pub text_first : {T : Type 0} (new : W) (done : T) (result : Result Bool Ended) → Puts wire (text_of answering one) old mid (Ok done)
      → ExchangeBy wire answering g held mid new result → ExchangeBy wire answering f held old new result
  text_first new done result puts e = record {
    got = e.got;
    consumed = subst (λ (s : Option (List ℕ)). Consumes s (wire.left new) e.got) puts.left e.consumed;
    leads = subst (λ (s : Step). Leads s held (wire.left new) result) (sym (goes e.got)) (leads_behind one (g e.got) held (wire.left new) result e.leads);
    sent = subst (λ (all : List Owed). SendsOf answering all (wire.sent old) (wire.sent new) result) (sym (owed_behind answering one f g goes e.got))
        (sends_behind answering one (owed_of (g e.got)) (wire.sent old) (wire.sent mid) (wire.sent new) result puts.sent e.sent);
    asked = asked_behind answering one f g goes e.got (wire.left old) (wire.sent old) (wire.sent mid) (wire.asked old) (wire.asked new) puts.sent
        (subst (λ (a : Option (ℕ × ℕ)). AskedIn answering g e.got (wire.left old) (wire.sent mid) a (wire.asked new)) puts.asked
        (subst (λ (l : Option (List ℕ)). AskedIn answering g e.got l (wire.sent mid) (wire.asked mid) (wire.asked new)) puts.left e.asked));
    fault = fault_later (wire.read_faults old) (wire.read_faults mid) (wire.read_faults new) (wire.write_faults old) (wire.write_faults mid) (wire.write_faults new) result
        (omega (arith, puts.read_faults)) puts.cause.later e.fault;
    later = (omega (arith, puts.read_faults, e.later.0), omega (arith, puts.cause.later, e.later.1));
  }

  -- it could not be sent whole
  pub text_failed : {T : Type 0} (failed : Failed) → Puts {T = T} wire (text_of answering one) old mid (Err failed) → ExchangeBy wire answering f held old mid (Err WriteFault)
  text_failed failed puts = record {
    got = [];
    consumed = subst (λ (s : Option (List ℕ)). Consumes (wire.left old) s []) (sym puts.left) (Consumes-nothing (wire.left old));
    leads = tt;
    sent = (
      texts answering (owed_of (f [])),
      inl refl,
      subst (λ (all : List Owed). AppendsPrefix (wire.sent old) (wire.sent mid) (texts answering all)) (sym (owed_behind answering one f g goes []))
          (prefix_longer (wire.sent old) (wire.sent mid) (text_of answering one) (texts answering (owed_of (g []))) puts.sent),
    );
    asked = asked_none answering f (wire.left old) (wire.sent old) (wire.asked old) (wire.asked mid) puts.asked;
    fault = puts.cause.failed;
    later = (omega (arith, puts.read_faults), puts.cause.later);
  }

-- ---- the last reply

leads_on : (closing : Bool) (all : List Owed) (rest : List ℕ) (left : Option (List ℕ)) (goes : Bool) → goes ≡ not closing → Leads (step_on closing all rest) rest left (Ok goes)
leads_on true all rest left true h = absurd (cc)
leads_on true all rest left false h = (all, refl)
leads_on false all rest left true h = (all, refl)
leads_on false all rest left false h = absurd (cc)

leads_told : (one : Owed) (rest : List ℕ) (left : Option (List ℕ)) (result : Result Bool Ended) → Told one result → Leads (step_answered [] one rest) rest left result
leads_told one rest left (Ok goes) h = leads_on (closes one) (one ∷ []) rest left goes h
leads_told one rest left (Err Finished) h = absurd h
leads_told one rest left (Err ReadFault) h = absurd h
leads_told one rest left (Err WriteFault) h = tt
leads_told one rest left (Err NoMemory) h = tt

owed_on : (closing : Bool) (all : List Owed) (rest : List ℕ) → owed_of (step_on closing all rest) ≡ all
owed_on true all rest = refl
owed_on false all rest = refl

pub replied : {W : Type 0} (wire : Ghosts W) (answering : Answering) (one : Owed) (f : List ℕ → Step) (rest : List ℕ) (old new : W) (result : Result Bool Ended) → f [] ≡ step_answered [] one rest
    → RepliesTo wire answering one old new result → ExchangeBy wire answering f rest old new result
replied wire answering one f rest old new result is r = record {
  got = [];
  consumed = subst (λ (s : Option (List ℕ)). Consumes (wire.left old) s []) (sym r.left) (Consumes-nothing (wire.left old));
  leads = subst (λ (s : Step). Leads s rest (wire.left new) result) (sym is) (leads_told one rest (wire.left new) result r.told);
  sent = subst (λ (all : List Owed). SendsOf answering all (wire.sent old) (wire.sent new) result) (sym (ap owed_of is ∙ owed_on (closes one) (one ∷ []) rest)) r.sent;
  asked = asked_none answering f (wire.left old) (wire.sent old) (wire.asked old) (wire.asked new) r.asked;
  fault = r.fault;
  later = (omega (arith, r.read_faults), r.later);
}

-- ---- from a text that was sent to the last reply

module _ {W T : Type 0} (wire : Ghosts W) (answering : Answering) (old new : W) (result : Result T Failed) where
  module _ (one : Owed) where
    sends_told : (closing : Bool) (text : List ℕ) → text ≡ text_of answering one → SentBy result (wire.sent old) (wire.sent new) text
        → SendsOf answering (one ∷ []) (wire.sent old) (wire.sent new) (told_of result closing)
    sends_told closing text is sent = by result sent
      where
        same : text ≡ texts answering (one ∷ [])
        same = is ∙ sym (append-nil (text_of answering one))

        by : (r : Result T Failed) → SentBy r (wire.sent old) (wire.sent new) text → SendsOf answering (one ∷ []) (wire.sent old) (wire.sent new) (told_of r closing)
        by (Ok done) sent = subst (Appends (wire.sent old) (wire.sent new)) same sent
        by (Err failed) sent = (text, inl same, sent)

  told_by : (r : Result T Failed) (closing : Bool) (one : Owed) → closing ≡ closes one → Told one (told_of r closing)
  told_by (Ok done) closing one is = ap not is
  told_by (Err failed) closing one is = tt

  fault_by : (r : Result T Failed) (closing : Bool) (reads_before reads_after before after : ℕ) → HasCause before after r → FaultOf reads_before reads_after before after (told_of r closing)
  fault_by (Ok done) closing reads_before reads_after before after cause = tt
  fault_by (Err failed) closing reads_before reads_after before after cause = cause.failed

  pub reply_told : (one : Owed) (closing : Bool) (text : List ℕ) → closing ≡ closes one → text ≡ text_of answering one → Puts wire text old new result
      → RepliesTo wire answering one old new (told_of result closing)
  reply_told one closing text ends is puts = record {
    told = told_by result closing one ends;
    sent = sends_told one closing text is puts.sent;
    fault = fault_by result closing (wire.read_faults old) (wire.read_faults new) (wire.write_faults old) (wire.write_faults new) puts.cause;
    later = puts.cause.later;
    asked = puts.asked;
    left = puts.left;
    read_faults = puts.read_faults;
  }

gives_up_alone : (answering : Answering) (caller body : List ℕ) (closing : Bool) → GivesUpIn answering (Asking caller body closing ∷ []) no_memory_text
gives_up_alone answering caller body closing = ([], caller, body, closing, [], refl, refl)

module _ {W T : Type 0} (wire : Ghosts W) (answering : Answering) (old new : W) (caller body : List ℕ) (closing : Bool) where
  pub gave_up_sent : (done : T) → Puts wire no_memory_text old new (Ok done) → RepliesTo wire answering (Asking caller body closing) old new (Err NoMemory)
  gave_up_sent done puts = record {
    told = tt;
    sent = (no_memory_text, gives_up_alone answering caller body closing, puts.sent);
    fault = tt;
    later = puts.cause.later;
    asked = puts.asked;
    left = puts.left;
    read_faults = puts.read_faults;
  }

  pub gave_up_stopped : (failed : Failed) → Puts {T = T} wire no_memory_text old new (Err failed) → RepliesTo wire answering (Asking caller body closing) old new (Err WriteFault)
  gave_up_stopped failed puts = record {
    told = tt;
    sent = (no_memory_text, inr (gives_up_alone answering caller body closing), puts.sent);
    fault = puts.cause.failed;
    later = puts.cause.later;
    asked = puts.asked;
    left = puts.left;
    read_faults = puts.read_faults;
  }
