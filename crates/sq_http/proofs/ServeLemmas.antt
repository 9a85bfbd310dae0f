-- Where a connection stands between two requests.
use Rattle.std.proofs.Common.{◌≡◌, ℕ, zero, suc, ◌+◌, ◌-◌, ◌<◌, ◌≤◌, Bool, true, false, List, [], ◌∷◌, ◌++◌, length, take, Option, Some, None, IfSome, refl, sym, ap, subst, ◌∙◌, append_assoc, append-nil, inl, inr, arith, length-append, Result, Ok, Err, min}
use Rattle.std.specs.Prelude.{◌==◌, ◌⊎◌}
use Rattle.std.specs.Io.KnownBytes.{Appends, Consumes}
use Rattle.std.specs.Prelude.{IsSomeAnd}
use Rattle.std.proofs.Math.Seq.{take-append-add, take-append_seam}
use Rattle.std.proofs.lemmas.List.{take_min, take-append-le}
use Rattle.sq_base.specs.declared.faults.Failed.{Failed}
use Rattle.sq_http.specs.Puts.{Puts}
use Rattle.sq_base.specs.declared.faults.Ended.{Ended}
use Rattle.sq_base.specs.declared.faults.Ended.TheVariants.{Finished, ReadFault, WriteFault, NoMemory}
use Rattle.sq_base.specs.declared.wire.Wire.{Ghosts}
use Rattle.sq_base.specs.Causes.{Rose}
use Rattle.sq_base.specs.Bytes.{AppendsPrefix}
use Rattle.sq_http.proofs.KnownLemmas.{Consumes-append, Consumes-nothing, Appends-append, Appends-nothing}
use Rattle.sq_http.specs.Owed.{Owed, Asking, Step, Open, Closed, Goes, closes, step, after, owed_from, owed}
use Rattle.sq_http.specs.Replies.{Answering, texts, text_of, no_memory_text}
use Rattle.sq_http.specs.Served.{ends_closed, GivesUpIn, GivesUp, Sent, IsPrompt, Prompt, HasFault, Serves}
use Rattle.sq_http.specs.Exchange.{owed_of, AskedOpen, AskedIn, Exchange}
use Rattle.sq_http.proofs.StepLemmas.{extended, step_more, last_closes, step_closed}

-- of so many bytes that were to come and so many that had been sent: all was sent that was owed for the bytes taken when the latest read began that took one
pub record PromptAt (answering : Answering) (taken : List ℕ) (done : List Owed) (to_come gone : ℕ) (asked : Option (ℕ × ℕ)) : Type 0 where
  pub first : List ℕ
  pub second : List ℕ
  pub split : taken ≡ first ++ second
  pub some : 0 < length second
  pub noted : asked ≡ Some (to_come - length first, gone + length (texts answering (owed first)))
  pub later : List Owed
  pub goes_on : done ≡ owed first ++ later

abbrev pub Asks : Answering → List ℕ → List Owed → Option (List ℕ) → Option (List ℕ) → Option (ℕ × ℕ) → Type 0
Asks answering taken done left sent asked =
    IfSome left (λ bytes. IfSome sent (λ gone. (taken ≡ []) ⊎ PromptAt answering taken done (length bytes) (length gone) asked))

-- what was taken and answered so far; what is owed for it and for whatever follows
pub record Stands {W : Type 0} (wire : Ghosts W) (answering : Answering) (left : ℕ) (held : List ℕ) (old now : W) : Type 0 where
  pub taken : List ℕ
  pub done : List Owed
  pub consumed : Consumes (wire.left old) (wire.left now) taken
  pub sent : Appends (wire.sent old) (wire.sent now) (texts answering done)
  pub goes : (more : List ℕ) → owed (taken ++ more) ≡ done ++ owed_from left (held ++ more)
  pub asks : Asks answering taken done (wire.left old) (wire.sent old) (wire.asked now)
  pub later : (wire.read_faults old ≤ wire.read_faults now) × (wire.write_faults old ≤ wire.write_faults now)

texts-append : (answering : Answering) (xs ys : List Owed) → texts answering (xs ++ ys) ≡ texts answering xs ++ texts answering ys
texts-append answering [] ys = refl
texts-append answering (x ∷ xs) ys = ap (λ t. text_of answering x ++ t) (texts-append answering xs ys) ∙ sym (append_assoc (text_of answering x) (texts answering xs) (texts answering ys))

asks-none : (answering : Answering) (left sent : Option (List ℕ)) (asked : Option (ℕ × ℕ)) → Asks answering [] [] left sent asked
asks-none answering None sent asked = tt
asks-none answering (Some xs) None asked = tt
asks-none answering (Some xs) (Some ys) asked = inl refl

pub Stands-first : {W : Type 0} (wire : Ghosts W) (answering : Answering) (held : List ℕ) (w : W) → held ≡ [] → Stands wire answering 1000 held w w
Stands-first wire answering held w none = record {
  taken = [];
  done = [];
  consumed = Consumes-nothing (wire.left w);
  sent = Appends-nothing (wire.sent w);
  goes = λ more. rw none refl;
  asks = asks-none answering (wire.left w) (wire.sent w) (wire.asked w);
  later = (omega arith, omega arith);
}

-- ---- one request more

abbrev pub tail_of : Step → (List ℕ → List Owed) → List Owed
tail_of (Open all) next = []
tail_of (Closed all) next = []
tail_of (Goes all rest) next = next rest

after_is : (s : Step) (next : List ℕ → List Owed) → after s next ≡ owed_of s ++ tail_of s next
after_is (Open all) next = sym (append-nil all)
after_is (Closed all) next = sym (append-nil all)
after_is (Goes all rest) next = refl

module _ (answering : Answering) (k : ℕ) (held taken got : List ℕ) (done : List Owed) (goes : (more : List ℕ) → owed (taken ++ more) ≡ done ++ owed_from (suc k) (held ++ more)) where
  -- what is owed for the bytes of this request and those that follow
  owed_now : (more : List ℕ) → owed (taken ++ more) ≡ done ++ after (step (k == 0) (held ++ more)) (owed_from k)
  owed_now more = goes more

  open_now : (first : List ℕ) (all : List Owed) → step (k == 0) (held ++ first) ≡ Open all → owed (taken ++ first) ≡ done ++ all
  open_now first all is = owed_now first ∙ rw is refl

  pub owed_got : owed (taken ++ got) ≡ (done ++ owed_of (step (k == 0) (held ++ got))) ++ tail_of (step (k == 0) (held ++ got)) (owed_from k)
  owed_got = owed_now got ∙ ap (λ t. done ++ t) (after_is (step (k == 0) (held ++ got)) (owed_from k))
      ∙ sym (append_assoc done (owed_of (step (k == 0) (held ++ got))) (tail_of (step (k == 0) (held ++ got)) (owed_from k)))

  pub goes_on : (all : List Owed) (rest : List ℕ) → step (k == 0) (held ++ got) ≡ Goes all rest → (more : List ℕ) → owed ((taken ++ got) ++ more) ≡ (done ++ all) ++ owed_from k (rest ++ more)
  goes_on all rest is more =
      let longer : step (k == 0) ((held ++ got) ++ more) ≡ Goes all (rest ++ more) = step_more (k == 0) (held ++ got) more (rw is tt) ∙ ap (λ s. extended s more) is in
      ap owed (append_assoc taken got more) ∙ owed_now (got ++ more) ∙ ap (λ t. done ++ after (step (k == 0) t) (owed_from k)) (sym (append_assoc held got more))
      ∙ ap (λ s. done ++ after s (owed_from k)) longer ∙ sym (append_assoc done all (owed_from k (rest ++ more)))

  opened : (to_come gone to_come_mid gone_mid : ℕ) (asked : Option (ℕ × ℕ)) → to_come_mid ≡ to_come - length taken → gone_mid ≡ gone + length (texts answering done)
      → AskedOpen answering (λ x. step (k == 0) (held ++ x)) got to_come_mid gone_mid asked → PromptAt answering (taken ++ got) (done ++ owed_of (step (k == 0) (held ++ got))) to_come gone asked
  opened to_come gone to_come_mid gone_mid asked come went o =
      let first = open_now o.first o.opening o.is_open in record {
        first = taken ++ o.first;
        second = o.second;
        split = ap (λ t. taken ++ t) o.split ∙ sym (append_assoc taken o.first o.second);
        some = o.some;
        noted = o.noted ∙ ap (λ (p : ℕ × ℕ). Some p) (pairs
            (omega (arith, come, length-append taken o.first))
            (omega (arith, went, ap length (ap (texts answering) first ∙ texts-append answering done o.opening), length-append (texts answering done) (texts answering o.opening))));
        later = o.later;
        goes_on = ap (λ t. done ++ t) o.goes_on ∙ sym (append_assoc done o.opening o.later) ∙ ap (λ t. t ++ o.later) (sym first);
      }
    where
      pairs : {a b c d : ℕ} → a ≡ b → c ≡ d → ◌≡◌ {A = ℕ × ℕ} (a, c) (b, d)
      pairs x y = λ i. (x i, y i)

  kept : (to_come gone : ℕ) (before asked : Option (ℕ × ℕ)) (all : List Owed) → got ≡ [] → asked ≡ before → (taken ≡ []) ⊎ PromptAt answering taken done to_come gone before
      → (taken ++ got ≡ []) ⊎ PromptAt answering (taken ++ got) (done ++ all) to_come gone asked
  kept to_come gone before asked all none same (inl nothing) = inl (ap (λ t. t ++ got) nothing ∙ none)
  kept to_come gone before asked all none same (inr p) = inr (record {
    first = p.first;
    second = p.second;
    split = ap (λ t. taken ++ t) none ∙ append-nil taken ∙ p.split;
    some = p.some;
    noted = same ∙ p.noted;
    later = p.later ++ all;
    goes_on = ap (λ t. t ++ all) p.goes_on ∙ append_assoc (owed p.first) p.later all;
  })

  pub asks_more : (left left_mid sent sent_mid : Option (List ℕ)) (before asked : Option (ℕ × ℕ)) → Consumes left left_mid taken → Appends sent sent_mid (texts answering done)
      → Asks answering taken done left sent before → AskedIn answering (λ x. step (k == 0) (held ++ x)) got left_mid sent_mid before asked
      → Asks answering (taken ++ got) (done ++ owed_of (step (k == 0) (held ++ got))) left sent asked
  asks_more None left_mid sent sent_mid before asked consumed appends first second = tt
  asks_more (Some xs) None sent sent_mid before asked consumed appends first second = absurd consumed
  asks_more (Some xs) (Some ys) None sent_mid before asked consumed appends first second = tt
  asks_more (Some xs) (Some ys) (Some us) None before asked consumed appends first second = absurd appends
  asks_more (Some xs) (Some ys) (Some us) (Some vs) before asked consumed appends first (inl none) =
      kept (length xs) (length us) before asked (owed_of (step (k == 0) (held ++ got))) none.0 none.1 first
  asks_more (Some xs) (Some ys) (Some us) (Some vs) before asked consumed appends first (inr o) =
      inr (opened (length xs) (length us) (length ys) (length vs) asked
      (omega (arith, ap length consumed, length-append taken ys)) (omega (arith, ap length appends, length-append us (texts answering done))) o)

sent_more : (answering : Answering) (a b c : Option (List ℕ)) (done all : List Owed) → Appends a b (texts answering done) → Appends b c (texts answering all) → Appends a c (texts answering (done ++ all))
sent_more answering a b c done all first second =
    subst (Appends a c) (sym (texts-append answering done all)) (Appends-append a b c (texts answering done) (texts answering all) first second)

module _ {W : Type 0} (wire : Ghosts W) (answering : Answering) (k : ℕ) (held_old held_new : List ℕ) (old mid new : W) (s : Stands wire answering (suc k) held_old old mid) where
  pub Stands-more : Exchange wire answering (k == 0) held_old held_new mid new (Ok true) → Stands wire answering k held_new old new
  Stands-more e =
      let all = e.leads.0 in
      let is : step (k == 0) (held_old ++ e.got) ≡ Goes all held_new = e.leads.1 in
      let same : owed_of (step (k == 0) (held_old ++ e.got)) ≡ all = ap owed_of is in
      record {
        taken = s.taken ++ e.got;
        done = s.done ++ owed_of (step (k == 0) (held_old ++ e.got));
        consumed = Consumes-append (wire.left old) (wire.left mid) (wire.left new) s.taken e.got s.consumed e.consumed;
        sent = sent_more answering (wire.sent old) (wire.sent mid) (wire.sent new) s.done (owed_of (step (k == 0) (held_old ++ e.got))) s.sent e.sent;
        goes = λ more. goes_on answering k held_old s.taken e.got s.done s.goes all held_new is more ∙ ap (λ t. (s.done ++ t) ++ owed_from k (held_new ++ more)) (sym same);
        asks = asks_more answering k held_old s.taken e.got s.done s.goes (wire.left old) (wire.left mid) (wire.sent old) (wire.sent mid) (wire.asked mid) (wire.asked new) s.consumed s.sent s.asks e.asked;
        later = (omega (arith, s.later.0, e.later.0), omega (arith, s.later.1, e.later.1));
      }

-- ---- the end

abbrev pub HasEnded : Result Bool Ended → Ended → Type 0
HasEnded (Ok true) ended = ⊥
HasEnded (Ok false) ended = ended ≡ Finished
HasEnded (Err how) ended = ended ≡ how

ends_push : (xs : List Owed) (last : Owed) → ends_closed (xs ++ last ∷ []) ≡ closes last
ends_push [] last = refl
ends_push (x ∷ []) last = refl
ends_push (x ∷ (y ∷ xs)) last = ends_push (y ∷ xs) last

prefix_after : (a b c : Option (List ℕ)) (xs ys : List ℕ) → Appends a b xs → AppendsPrefix b c ys → AppendsPrefix a c (xs ++ ys)
prefix_after a b c xs ys first second =
    (length xs + second.0, subst (Appends a c) (sym (take-append-add xs ys second.0)) (Appends-append a b c xs (take second.0 ys) first second.1))

prefix_longer : (a c : Option (List ℕ)) (xs ys : List ℕ) → AppendsPrefix a c xs → AppendsPrefix a c (xs ++ ys)
prefix_longer a c xs ys h =
    let few : min h.0 (length xs) ≤ length xs = omega arith in
    (min h.0 (length xs), subst (Appends a c) (sym (take-append-le (min h.0 (length xs)) xs ys few ∙ take_min h.0 xs)) h.1)

module _ (answering : Answering) (taken : List ℕ) (done all tail : List Owed) (is : owed taken ≡ (done ++ all) ++ tail) where
  -- want of memory behind what was sent before
  gives_up : (text : List ℕ) → GivesUpIn answering all text → GivesUp answering taken (texts answering done ++ text)
  gives_up text g = inr (
    done ++ g.0,
    g.1,
    g.2,
    g.3,
    g.4 ++ tail,
    is ∙ ap (λ t. (done ++ t) ++ tail) g.5 ∙ ap (λ t. t ++ tail) (sym (append_assoc done g.0 (Asking g.1 g.2 g.3 ∷ g.4))) ∙ append_assoc (done ++ g.0) (Asking g.1 g.2 g.3 ∷ g.4) tail,
    ap (λ t. texts answering done ++ t) g.6 ∙ sym (append_assoc (texts answering done) (texts answering g.0) no_memory_text) ∙ ap (λ t. t ++ no_memory_text) (sym (texts-append answering done g.0)),
  )

  stopped_write : (a b c : Option (List ℕ)) (text : List ℕ) → Appends a b (texts answering done) → (text ≡ texts answering all) ⊎ GivesUpIn answering all text → AppendsPrefix b c text
      → Sent answering taken WriteFault a c
  stopped_write a b c text first (inl whole) more = (
    texts answering (owed taken),
    inl refl,
    subst (AppendsPrefix a c) (sym (ap (texts answering) is ∙ texts-append answering (done ++ all) tail))
        (prefix_longer a c (texts answering (done ++ all)) (texts answering tail)
        (subst (AppendsPrefix a c) (ap (λ t. texts answering done ++ t) whole ∙ sym (texts-append answering done all)) (prefix_after a b c (texts answering done) text first more))),
  )
  stopped_write a b c text first (inr g) more = (texts answering done ++ text, inr (gives_up text g), prefix_after a b c (texts answering done) text first more)

prompt_end : (answering : Answering) (bytes rest before now taken : List ℕ) (done : List Owed) (asked : Option (ℕ × ℕ)) → bytes ≡ taken ++ rest → now ≡ before ++ texts answering done
    → 0 < length taken → (taken ≡ []) ⊎ PromptAt answering taken done (length bytes) (length before) asked → IsSomeAnd asked (IsPrompt answering bytes before now)
prompt_end answering bytes rest before now taken done asked split sent some (inl none) = absurd (omega (arith, some, ap length none))
prompt_end answering bytes rest before now taken done asked split sent some (inr p) =
    let whole : bytes ≡ p.first ++ (p.second ++ rest) = split ∙ ap (λ t. t ++ rest) p.split ∙ append_assoc p.first p.second rest in
    let all : now ≡ (before ++ texts answering (owed p.first)) ++ texts answering p.later =
    sent ∙ ap (λ t. before ++ t) (ap (texts answering) p.goes_on ∙ texts-append answering (owed p.first) p.later) ∙ sym (append_assoc before (texts answering (owed p.first)) (texts answering p.later)) in
    let back : length bytes - (length bytes - length p.first) ≡ length p.first = omega (arith, ap length whole, length-append p.first (p.second ++ rest)) in
    let first : take (length bytes - (length bytes - length p.first)) bytes ≡ p.first = ap (λ n. take n bytes) back ∙ ap (take (length p.first)) whole ∙ take-append_seam p.first (p.second ++ rest) in
    let front : take (length before + length (texts answering (owed p.first))) now ≡ before ++ texts answering (owed p.first) =
    ap (λ n. take n now) (sym (length-append before (texts answering (owed p.first)))) ∙ ap (take (length (before ++ texts answering (owed p.first)))) all ∙ take-append_seam (before ++ texts answering (owed p.first)) (texts answering p.later) in
    rw p.noted (front ∙ ap (λ t. before ++ texts answering (owed t)) (sym first))

prompt : (answering : Answering) (taken : List ℕ) (done : List Owed) (left left_now sent sent_now : Option (List ℕ)) (asked : Option (ℕ × ℕ)) → Consumes left left_now taken
    → Appends sent sent_now (texts answering done) → Asks answering taken done left sent asked → Prompt answering taken left sent sent_now asked
prompt answering taken done None left_now sent sent_now asked consumed sends asks some = tt
prompt answering taken done (Some xs) None sent sent_now asked consumed sends asks some = absurd consumed
prompt answering taken done (Some xs) (Some ys) None sent_now asked consumed sends asks some = tt
prompt answering taken done (Some xs) (Some ys) (Some us) None asked consumed sends asks some = absurd sends
prompt answering taken done (Some xs) (Some ys) (Some us) (Some vs) asked consumed sends asks some = prompt_end answering xs ys us vs taken done asked consumed sends some asks

module _ {W : Type 0} (wire : Ghosts W) (answering : Answering) (k : ℕ) (held_old held_new : List ℕ) (old mid new : W) (s : Stands wire answering (suc k) held_old old mid) where
  module _ (result : Result Bool Ended) (e : Exchange wire answering (k == 0) held_old held_new mid new result) where
    consumed : Consumes (wire.left old) (wire.left new) (s.taken ++ e.got)
    consumed = Consumes-append (wire.left old) (wire.left mid) (wire.left new) s.taken e.got s.consumed e.consumed

    is_owed : owed (s.taken ++ e.got) ≡ (s.done ++ owed_of (step (k == 0) (held_old ++ e.got))) ++ tail_of (step (k == 0) (held_old ++ e.got)) (owed_from k)
    is_owed = owed_got answering k held_old s.taken e.got s.done s.goes

    all_later : (wire.read_faults old ≤ wire.read_faults new) × (wire.write_faults old ≤ wire.write_faults new)
    all_later = (omega (arith, s.later.0, e.later.0), omega (arith, s.later.1, e.later.1))

    -- what was sent is all that is owed
    whole_end : (ended : Ended) → tail_of (step (k == 0) (held_old ++ e.got)) (owed_from k) ≡ [] → Appends (wire.sent mid) (wire.sent new) (texts answering (owed_of (step (k == 0) (held_old ++ e.got))))
        → Appends (wire.sent old) (wire.sent new) (texts answering (owed (s.taken ++ e.got))) × Prompt answering (s.taken ++ e.got) (wire.left old) (wire.sent old) (wire.sent new) (wire.asked new)
    whole_end ended none sends =
        let same : owed (s.taken ++ e.got) ≡ s.done ++ owed_of (step (k == 0) (held_old ++ e.got)) = is_owed ∙ ap (λ t. (s.done ++ owed_of (step (k == 0) (held_old ++ e.got))) ++ t) none ∙ append-nil _ in
        let sent = sent_more answering (wire.sent old) (wire.sent mid) (wire.sent new) s.done (owed_of (step (k == 0) (held_old ++ e.got))) s.sent sends in (
          subst (λ (t : List Owed). Appends (wire.sent old) (wire.sent new) (texts answering t)) (sym same) sent,
          prompt answering (s.taken ++ e.got) (s.done ++ owed_of (step (k == 0) (held_old ++ e.got))) (wire.left old) (wire.left new) (wire.sent old) (wire.sent new) (wire.asked new) consumed sent
              (asks_more answering k held_old s.taken e.got s.done s.goes (wire.left old) (wire.left mid) (wire.sent old) (wire.sent mid) (wire.asked mid) (wire.asked new) s.consumed s.sent s.asks e.asked),
        )

    tail_open : (all : List Owed) → step (k == 0) (held_old ++ e.got) ≡ Open all → tail_of (step (k == 0) (held_old ++ e.got)) (owed_from k) ≡ []
    tail_open all is = ap (λ t. tail_of t (owed_from k)) is

    tail_closed : (all : List Owed) → step (k == 0) (held_old ++ e.got) ≡ Closed all → tail_of (step (k == 0) (held_old ++ e.got)) (owed_from k) ≡ []
    tail_closed all is = ap (λ t. tail_of t (owed_from k)) is

    closed_end : (all : List Owed) → step (k == 0) (held_old ++ e.got) ≡ Closed all → ends_closed (owed (s.taken ++ e.got)) ≡ true
    closed_end all is =
        let last = step_closed (k == 0) (held_old ++ e.got) all is in
        ap ends_closed (is_owed ∙ ap (λ t. (s.done ++ owed_of t) ++ tail_of t (owed_from k)) is ∙ append-nil (s.done ++ all) ∙ ap (λ t. s.done ++ t) last.is
        ∙ sym (append_assoc s.done last.front (last.last ∷ [])))
        ∙ ends_push (s.done ++ last.front) last.last ∙ last.closing

rose_later : (a b c : ℕ) → a ≤ b → Rose b c → Rose a c
rose_later a b c h rose = omega (arith, h, rose)

fault_later : (a b c d e f : ℕ) (how : Ended) → a ≤ b → d ≤ e → HasFault b c e f how → HasFault a c d f how
fault_later a b c d e f Finished h g fault = tt
fault_later a b c d e f ReadFault h g fault = rose_later a b c h fault
fault_later a b c d e f WriteFault h g fault = rose_later d e f g fault
fault_later a b c d e f NoMemory h g fault = tt

module _ {W : Type 0} (wire : Ghosts W) (answering : Answering) (k : ℕ) (held_old held_new : List ℕ) (old mid new : W) (s : Stands wire answering (suc k) held_old old mid) where
  pub Serves-closed : Exchange wire answering (k == 0) held_old held_new mid new (Ok false) → Serves wire answering old new Finished
  Serves-closed e =
      let end = whole_end wire answering k held_old held_new old mid new s (Ok false) e Finished (tail_closed wire answering k held_old held_new old mid new s (Ok false) e e.leads.0 e.leads.1) e.sent in
      record {
        taken = s.taken ++ e.got;
        consumed = consumed wire answering k held_old held_new old mid new s (Ok false) e;
        sent = end.0;
        ends = inr (closed_end wire answering k held_old held_new old mid new s (Ok false) e e.leads.0 e.leads.1);
        prompt = end.1;
        fault = tt;
        later = all_later wire answering k held_old held_new old mid new s (Ok false) e;
      }

  pub Serves-ended : (how : Ended) → Exchange wire answering (k == 0) held_old held_new mid new (Err how) → Serves wire answering old new how
  Serves-ended Finished e =
      let end = whole_end wire answering k held_old held_new old mid new s (Err Finished) e Finished (tail_open wire answering k held_old held_new old mid new s (Err Finished) e e.leads.0.0 e.leads.0.1) e.sent in
      record {
        taken = s.taken ++ e.got;
        consumed = consumed wire answering k held_old held_new old mid new s (Err Finished) e;
        sent = end.0;
        ends = inl e.leads.1;
        prompt = end.1;
        fault = tt;
        later = all_later wire answering k held_old held_new old mid new s (Err Finished) e;
      }
  Serves-ended ReadFault e =
      let end = whole_end wire answering k held_old held_new old mid new s (Err ReadFault) e ReadFault (tail_open wire answering k held_old held_new old mid new s (Err ReadFault) e e.leads.0 e.leads.1) e.sent in
      record {
        taken = s.taken ++ e.got;
        consumed = consumed wire answering k held_old held_new old mid new s (Err ReadFault) e;
        sent = end.0;
        ends = tt;
        prompt = end.1;
        fault = fault_later (wire.read_faults old) (wire.read_faults mid) (wire.read_faults new) (wire.write_faults old) (wire.write_faults mid) (wire.write_faults new) ReadFault s.later.0 s.later.1 e.fault;
        later = all_later wire answering k held_old held_new old mid new s (Err ReadFault) e;
      }
  Serves-ended WriteFault e = record {
    taken = s.taken ++ e.got;
    consumed = consumed wire answering k held_old held_new old mid new s (Err WriteFault) e;
    sent = stopped_write answering (s.taken ++ e.got) s.done (owed_of (step (k == 0) (held_old ++ e.got))) (tail_of (step (k == 0) (held_old ++ e.got)) (owed_from k))
        (is_owed wire answering k held_old held_new old mid new s (Err WriteFault) e) (wire.sent old) (wire.sent mid) (wire.sent new) e.sent.0 s.sent e.sent.1 e.sent.2;
    ends = tt;
    prompt = tt;
    fault = fault_later (wire.read_faults old) (wire.read_faults mid) (wire.read_faults new) (wire.write_faults old) (wire.write_faults mid) (wire.write_faults new) WriteFault s.later.0 s.later.1 e.fault;
    later = all_later wire answering k held_old held_new old mid new s (Err WriteFault) e;
  }
  Serves-ended NoMemory e = record {
    taken = s.taken ++ e.got;
    consumed = consumed wire answering k held_old held_new old mid new s (Err NoMemory) e;
    sent = (
      texts answering s.done ++ e.sent.0,
      gives_up answering (s.taken ++ e.got) s.done (owed_of (step (k == 0) (held_old ++ e.got))) (tail_of (step (k == 0) (held_old ++ e.got)) (owed_from k))
          (is_owed wire answering k held_old held_new old mid new s (Err NoMemory) e) e.sent.0 e.sent.1,
      Appends-append (wire.sent old) (wire.sent mid) (wire.sent new) (texts answering s.done) e.sent.0 s.sent e.sent.2,
    );
    ends = tt;
    prompt = tt;
    fault = tt;
    later = all_later wire answering k held_old held_new old mid new s (Err NoMemory) e;
  }

-- the same, where the number of requests left is one more
module _ {W : Type 0} (wire : Ghosts W) (answering mine : Answering) (n k : ℕ) (held_old held_new : List ℕ) (old mid new : W) (is : n ≡ k + 1) (same : mine ≡ answering) (s : Stands wire answering n held_old old mid) where
  next : Stands wire answering (suc k) held_old old mid
  next = subst (λ (m : ℕ). Stands wire answering m held_old old mid) (omega (arith, is)) s

  pub goes_next : (final : Bool) → final ≡ (k == 0) → Exchange wire mine final held_old held_new mid new (Ok true) → Stands wire answering k held_new old new
  goes_next final last e = Stands-more wire answering k held_old held_new old mid new next (rw (sym last, sym same) e)

  pub not_last : (final : Bool) → final ≡ (k == 0) → Exchange wire mine final held_old held_new mid new (Ok true) → 0 < k
  not_last final last e = elim (nat_cases k) [ inl some ↦ some | inr none ↦ absurd (last_closes (held_old ++ e.got) e.leads.0 held_new (rw (last, none) at e.leads.1)) ]
    where
      nat_cases : (k : ℕ) → (0 < k) ⊎ (k ≡ 0)
      nat_cases zero = inr refl
      nat_cases (suc k) = inl (omega arith)

  pub closed_next : (final : Bool) → final ≡ (k == 0) → Exchange wire mine final held_old held_new mid new (Ok false) → Serves wire answering old new Finished
  closed_next final last e = Serves-closed wire answering k held_old held_new old mid new next (rw (sym last, sym same) e)

  pub ended_next : (final : Bool) (how : Ended) → final ≡ (k == 0) → Exchange wire mine final held_old held_new mid new (Err how) → Serves wire answering old new how
  ended_next final how last e = Serves-ended wire answering k held_old held_new old mid new next how (rw (sym last, sym same) e)

-- ---- want of memory for the buffers

module _ {W : Type 0} (wire : Ghosts W) (answering : Answering) (old new : W) where
  pub no_buffers : {T : Type 0} (done : T) → Puts wire no_memory_text old new (Ok done) → Serves wire answering old new NoMemory
  no_buffers done puts = record {
    taken = [];
    consumed = subst (λ (s : Option (List ℕ)). Consumes (wire.left old) s []) (sym puts.left) (Consumes-nothing (wire.left old));
    sent = (no_memory_text, inl (refl, refl), puts.sent);
    ends = tt;
    prompt = tt;
    fault = tt;
    later = (omega (arith, puts.read_faults), puts.cause.later);
  }

  pub no_buffers_stopped : {T : Type 0} (failed : Failed) → Puts {T = T} wire no_memory_text old new (Err failed) → Serves wire answering old new WriteFault
  no_buffers_stopped failed puts = record {
    taken = [];
    consumed = subst (λ (s : Option (List ℕ)). Consumes (wire.left old) s []) (sym puts.left) (Consumes-nothing (wire.left old));
    sent = (no_memory_text, inr (inl (refl, refl)), puts.sent);
    ends = tt;
    prompt = tt;
    fault = puts.cause.failed;
    later = (omega (arith, puts.read_faults), puts.cause.later);
  }
