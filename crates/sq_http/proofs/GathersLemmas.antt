-- One read after another.
use Rattle.std.proofs.Common.{◌≡◌, ℕ, ◌-◌, ◌<◌, List, [], ◌∷◌, ◌++◌, length, drop, Option, Some, None, refl, sym, ap, subst, ◌∙◌, append_assoc, append-nil, inl, inr, arith, length-append, Ok, Err}
use Rattle.std.specs.Prelude.{◌==◌, ◌⊎◌, if◌then◌else◌, false}
use Rattle.std.specs.Io.KnownBytes.{Consumes, Keeps}
use Rattle.std.proofs.Math.Seq.{drop-append_seam}
use Rattle.std.proofs.lemmas.Bool.Decides.{nat_tests}
use Rattle.sq_base.specs.Asked.{Asks}
use Rattle.sq_base.specs.declared.faults.Failed.{Failed}
use Rattle.sq_http.proofs.KnownLemmas.{Consumes-append}
use Rattle.sq_http.specs.Gathers.{Latest, Asked, Gathers, gained}

pub gained-same : (xs : List ℕ) → gained xs xs ≡ []
gained-same xs = ap (drop (length xs)) (sym (append-nil xs)) ∙ drop-append_seam xs []

pub gained-more : (xs ys : List ℕ) → gained xs (xs ++ ys) ≡ ys
gained-more xs ys = drop-append_seam xs ys

Consumes-keeps : (before after : Option (List ℕ)) → Keeps before after → Consumes before after []
Consumes-keeps None after kept = tt
Consumes-keeps (Some xs) None kept = absurd kept
Consumes-keeps (Some xs) (Some ys) kept = sym kept

module _ (IsOpen : List ℕ → Type 0) where
  -- a read that failed took nothing
  pub Gathers-failed : (left after sent : Option (List ℕ)) (before asked : Option (ℕ × ℕ)) (failed : Failed) → Keeps left after
      → Asks {E = Failed} left sent before asked (Err failed) → Gathers IsOpen left after sent before asked []
  Gathers-failed None after sent before asked failed kept asks = record { consumed = tt; asked = tt }
  Gathers-failed (Some xs) None sent before asked failed kept asks = absurd kept
  Gathers-failed (Some xs) (Some ys) None before asked failed kept asks = record { consumed = sym kept; asked = tt }
  Gathers-failed (Some xs) (Some ys) (Some zs) before asked failed kept asks = record { consumed = sym kept; asked = inl (refl, asks) }

  not_zero : (n : ℕ) → 0 < n → (n == 0) ≡ false
  not_zero n h = grind (arith, nat_tests)

  noted : (to_come gone count : ℕ) (before asked : Option (ℕ × ℕ)) (got : List ℕ) → count ≡ length got → IsOpen [] → asked ≡ (if count == 0 then before else Some (to_come, gone))
      → ((got ≡ []) × (asked ≡ before)) ⊎ Latest IsOpen to_come gone asked got
  noted to_come gone count before asked [] is opened asks = inl (refl, rw is at asks)
  noted to_come gone count before asked (b ∷ got) is opened asks = inr (record {
    first = [];
    second = b ∷ got;
    split = refl;
    some = omega arith;
    opened = opened;
    noted = rw (not_zero count (omega (arith, is))) at asks ∙ ap (λ n. Some (n, gone)) (omega arith);
  })

  -- a read that took some bytes, or came to the end
  pub Gathers-read : (left after sent : Option (List ℕ)) (before asked : Option (ℕ × ℕ)) (count : ℕ) (got : List ℕ) → IsOpen [] → count ≡ length got → Consumes left after got
      → Asks {E = Failed} left sent before asked (Ok count) → Gathers IsOpen left after sent before asked got
  Gathers-read None after sent before asked count got opened is consumed asks = record { consumed = tt; asked = tt }
  Gathers-read (Some xs) None sent before asked count got opened is consumed asks = absurd consumed
  Gathers-read (Some xs) (Some ys) None before asked count got opened is consumed asks = record { consumed = consumed; asked = tt }
  Gathers-read (Some xs) (Some ys) (Some zs) before asked count got opened is consumed asks =
      record { consumed = consumed; asked = noted (length xs) (length zs) count before asked got is opened asks }

-- more reads, which began while `IsOpen` held of all that had been taken by then
module _ (IsOpen Rest : List ℕ → Type 0) (one two : List ℕ) (opens : (first : List ℕ) → Rest first → IsOpen (one ++ first)) where
  later : (to_come gone : ℕ) (asked : Option (ℕ × ℕ)) → Latest Rest (to_come - length one) gone asked two → Latest IsOpen to_come gone asked (one ++ two)
  later to_come gone asked last = record {
    first = one ++ last.first;
    second = last.second;
    split = ap (λ t. one ++ t) last.split ∙ sym (append_assoc one last.first last.second);
    some = last.some;
    opened = opens last.first last.opened;
    noted = last.noted ∙ ap (λ n. Some (n, gone)) (omega (arith, length-append one last.first));
  }

  same : (to_come gone : ℕ) (asked : Option (ℕ × ℕ)) → Latest IsOpen to_come gone asked one → two ≡ [] → Latest IsOpen to_come gone asked (one ++ two)
  same to_come gone asked last none = subst (Latest IsOpen to_come gone asked) (sym (ap (λ t. one ++ t) none ∙ append-nil one)) last

  pub Gathers-more : (left mid after sent : Option (List ℕ)) (a b c : Option (ℕ × ℕ)) → Gathers IsOpen left mid sent a b one → Gathers Rest mid after sent b c two
      → Gathers IsOpen left after sent a c (one ++ two)
  Gathers-more left mid after sent a b c first second = record {
    consumed = Consumes-append left mid after one two first.consumed second.consumed;
    asked = joined left mid sent first.consumed first.asked second.asked;
  }
    where
      by : (to_come left_mid gone : ℕ) → left_mid ≡ to_come - length one → ((one ≡ []) × (b ≡ a)) ⊎ Latest IsOpen to_come gone b one
          → ((two ≡ []) × (c ≡ b)) ⊎ Latest Rest left_mid gone c two → ((one ++ two ≡ []) × (c ≡ a)) ⊎ Latest IsOpen to_come gone c (one ++ two)
      by to_come left_mid gone is first (inr last) = inr (later to_come gone c (subst (λ n. Latest Rest n gone c two) is last))
      by to_come left_mid gone is (inl none) (inl end) = inl (ap (λ t. t ++ two) none.0 ∙ end.0, end.1 ∙ none.1)
      by to_come left_mid gone is (inr last) (inl end) = inr (subst (λ asked. Latest IsOpen to_come gone asked (one ++ two)) (sym end.1) (same to_come gone b last end.0))

      joined : (left mid sent : Option (List ℕ)) → Consumes left mid one → Asked IsOpen left sent a b one → Asked Rest mid sent b c two → Asked IsOpen left sent a c (one ++ two)
      joined None mid sent consumed first second = tt
      joined (Some xs) None sent consumed first second = absurd consumed
      joined (Some xs) (Some ys) None consumed first second = tt
      joined (Some xs) (Some ys) (Some zs) consumed first second = by (length xs) (length ys) (length zs) (grind (arith, consumed, length-append one ys)) first second

-- the same of what a buffer gains, where the later reads are those of one call
module _ (IsOpen : List ℕ → Type 0) (old mid new : List ℕ) (first : mid ≡ old ++ gained old mid) (second : new ≡ mid ++ gained mid new) where
  gained-both : gained old new ≡ gained old mid ++ gained mid new
  gained-both = ap (gained old) (second ∙ ap (λ t. t ++ gained mid new) first ∙ append_assoc old (gained old mid) (gained mid new))
      ∙ gained-more old (gained old mid ++ gained mid new)

  pub held-more : new ≡ old ++ gained old new
  held-more = second ∙ ap (λ t. t ++ gained mid new) first ∙ append_assoc old (gained old mid) (gained mid new) ∙ ap (λ t. old ++ t) (sym gained-both)

  pub Gathers-fill : (left between after sent sent_mid : Option (List ℕ)) (a b c : Option (ℕ × ℕ)) → sent_mid ≡ sent → IsOpen (gained old mid)
      → Gathers IsOpen left between sent a b (gained old mid)
      → Gathers (λ first. first ≡ []) between after sent_mid b c (gained mid new) → Gathers IsOpen left after sent a c (gained old new)
  Gathers-fill left between after sent sent_mid a b c same_sent opened before more =
      subst (Gathers IsOpen left after sent a c) (sym gained-both)
      (Gathers-more IsOpen (λ first. first ≡ []) (gained old mid) (gained mid new) (λ nothing none. subst IsOpen (sym (ap (λ t. gained old mid ++ t) none ∙ append-nil (gained old mid))) opened)
      left between after sent a b c before (subst (λ s. Gathers (λ first. first ≡ []) between after s b c (gained mid new)) same_sent more))
