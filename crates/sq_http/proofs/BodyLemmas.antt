-- The body of a request.
use Rattle.std.proofs.Common.{◌≡◌, ℕ, ◌<◌, ◌≤◌, Bool, true, false, List, [], ◌∷◌, ◌++◌, length, take, drop, refl, sym, ap, subst, ◌∙◌, append-nil, inl, inr, arith, length-append, length-take, nat_lt, Result, Ok, Err}
use Rattle.std.specs.Prelude.{◌⊎◌, if◌then◌else◌}
use Rattle.std.proofs.lemmas.Bool.Decides.{nat_tests}
use Rattle.std.proofs.lemmas.List.{take_all, drop_all}
use Rattle.sq_http.specs.Owed.{Owed, Interim, Open, Request, answer_to, closes, step_on, step_answered}
use Rattle.std.specs.Io.KnownBytes.{IsAtEnd}
use Rattle.sq_base.specs.Causes.{Rose}
use Rattle.sq_base.specs.declared.faults.Failed.{Failed}
use Rattle.sq_base.specs.declared.faults.Ended.{Ended}
use Rattle.sq_base.specs.declared.faults.Ended.TheVariants.{Finished, ReadFault, WriteFault}
use Rattle.sq_base.specs.declared.wire.Wire.{Ghosts}
use Rattle.sq_http.specs.Gathers.{Gathers, gained}
use Rattle.sq_http.specs.Puts.{Puts}
use Rattle.sq_http.specs.Replies.{Answering, text_of}
use Rattle.sq_http.specs.Exchange.{behind, ExchangeBy, RepliesTo}
use Rattle.sq_http.proofs.ExchangeLemmas.{reads_first, read_ended, read_failed, text_first, text_failed, replied}
use Rattle.sq_http.specs.Body.{body_step}

short_test : (n size : ℕ) → n < size → nat_lt n size ≡ true
short_test n size h = grind (arith, nat_tests)

long_test : (n size : ℕ) → size ≤ n → nat_lt n size ≡ false
long_test n size h = grind (arith, nat_tests)

two : (n size : ℕ) → (n < size) ⊎ (size ≤ n)
two n size = grind arith

module _ (size : ℕ) (request : Request) (closing : Bool) (front : List ℕ) where
  -- the body isn't whole
  pub body_open : (first : List ℕ) → length (take size front ++ first) < size → body_step false size request closing (front ++ first) ≡ Open []
  body_open first short =
      rw (short_test (length (front ++ first)) size (omega (arith, short, length-append front first, length-append (take size front) first, length-take size front))) refl

  fronts : (got whole : List ℕ) → whole ≡ take size front ++ got → length whole ≡ size → (take size (front ++ got) ≡ whole) × (drop size (front ++ got) ≡ drop size front)
  fronts got whole is all = elim (two (length front) size) [
    | inl less ↦
        let same : whole ≡ front ++ got = is ∙ ap (λ t. t ++ got) (take_all size front (omega (arith, less))) in (
          ap (take size) (sym same) ∙ take_all size whole (omega (arith, all)),
          ap (drop size) (sym same) ∙ drop_all size whole (omega (arith, all)) ∙ sym (drop_all size front (omega (arith, less))),
        )
    | inr more ↦
        let none : got ≡ [] = no_length got (omega (arith, ap length is, all, length-append (take size front) got, length-take size front, more)) in (
          ap (λ t. take size (front ++ t)) none ∙ ap (take size) (append-nil front) ∙ sym (is ∙ ap (λ t. take size front ++ t) none ∙ append-nil (take size front)),
          ap (λ t. drop size (front ++ t)) none ∙ ap (drop size) (append-nil front),
        )
  ]
    where
      no_length : (xs : List ℕ) → length xs ≡ 0 → xs ≡ []
      no_length [] h = refl
      no_length (x ∷ xs) h = absurd (omega (arith, h))

  -- it is whole
  pub body_whole : (got whole : List ℕ) → whole ≡ take size front ++ got → length whole ≡ size
      → body_step false size request closing (front ++ got) ≡ step_answered [] (answer_to request closing whole) (drop size front)
  body_whole got whole is all =
      let parts = fronts got whole is all in
      rw (long_test (length (front ++ got)) size (omega (arith, all, ap length is, length-append front got, length-append (take size front) got, length-take size front)), parts.0, parts.1) refl

  behind_on : (closing : Bool) (all : List Owed) (rest : List ℕ) → step_on closing (Interim ∷ all) rest ≡ behind Interim (step_on closing all rest)
  behind_on true all rest = refl
  behind_on false all rest = refl

  -- the interim text stands in front of what is owed
  pub body_behind : (more : List ℕ) → body_step true size request closing (front ++ more) ≡ behind Interim (body_step false size request closing (front ++ more))
  body_behind more = by (nat_lt (length (front ++ more)) size)
    where
      by : (t : Bool) → (if t then Open (Interim ∷ []) else step_answered (Interim ∷ []) (answer_to request closing (take size (front ++ more))) (drop size (front ++ more)))
          ≡ behind Interim (if t then Open [] else step_answered [] (answer_to request closing (take size (front ++ more))) (drop size (front ++ more)))
      by true = refl
      by false = behind_on (closes (answer_to request closing (take size (front ++ more)))) (answer_to request closing (take size (front ++ more)) ∷ []) (drop size (front ++ more))

pub held_front : (n size : ℕ) (old dropped here pushed front : List ℕ) → n ≡ length old → dropped ≡ drop n old → here ≡ take size front → pushed ≡ dropped ++ here → pushed ≡ take size front
held_front n size old dropped here pushed front all d h p = p ∙ ap (λ t. t ++ here) (d ∙ drop_all n old (omega (arith, all))) ∙ h

-- ---- the exchange

module _ {W : Type 0} (wire : Ghosts W) (answering : Answering) (size : ℕ) (request : Request) (closing : Bool) (front before after : List ℕ) (old mid : W)
    (is : before ≡ take size front) (grows : after ≡ before ++ gained before after)
    (gathers : Gathers (λ first. length (before ++ first) < size) (wire.left old) (wire.left mid) (wire.sent old) (wire.asked old) (wire.asked mid) (gained before after))
    (same : wire.sent mid ≡ wire.sent old) (later : wire.read_faults old ≤ wire.read_faults mid) (unfailed : wire.write_faults mid ≡ wire.write_faults old) where
  opens : (first : List ℕ) → length (before ++ first) < size → body_step false size request closing (front ++ first) ≡ Open []
  opens first short = body_open size request closing front first (subst (λ (t : List ℕ). length (t ++ first) < size) is short)

  short : length after < size → body_step false size request closing (front ++ gained before after) ≡ Open []
  short less = opens (gained before after) (subst (λ (t : List ℕ). length t < size) grows less)

  -- it came whole, and the last reply was sent
  pub body_replied : (new : W) (result : Result Bool Ended) → length after ≡ size → RepliesTo wire answering (answer_to request closing after) mid new result
      → ExchangeBy wire answering (λ more. body_step false size request closing (front ++ more)) (drop size front) old new result
  body_replied new result all r =
      let got = gained before after in
      reads_first wire answering (λ first. length (before ++ first) < size) (λ more. body_step false size request closing (front ++ more)) opens got (drop size front) old mid gathers same later unfailed
      (λ more. body_step false size request closing (front ++ (got ++ more))) new result (λ more. refl)
      (replied wire answering (answer_to request closing after) (λ more. body_step false size request closing (front ++ (got ++ more))) (drop size front) mid new result
      (ap (λ t. body_step false size request closing (front ++ t)) (append-nil got) ∙ body_whole size request closing front got after (grows ∙ ap (λ t. t ++ got) is) all) r)

  -- the input ended before
  pub body_ended : length after < size → IsAtEnd (wire.left mid) → ExchangeBy wire answering (λ more. body_step false size request closing (front ++ more)) (drop size front) old mid (Err Finished)
  body_ended less end =
      read_ended wire answering (λ first. length (before ++ first) < size) (λ more. body_step false size request closing (front ++ more)) opens (gained before after) (drop size front) old mid gathers same later unfailed
      (short less) end

  -- a read failed before
  pub body_failed : length after < size → Rose (wire.read_faults old) (wire.read_faults mid)
      → ExchangeBy wire answering (λ more. body_step false size request closing (front ++ more)) (drop size front) old mid (Err ReadFault)
  body_failed less rose =
      read_failed wire answering (λ first. length (before ++ first) < size) (λ more. body_step false size request closing (front ++ more)) opens (gained before after) (drop size front) old mid gathers same later unfailed
      (short less) rose

-- the interim text in front
module _ {W : Type 0} (wire : Ghosts W) (answering : Answering) (interim : Bool) (size : ℕ) (request : Request) (closing : Bool) (front : List ℕ) (old mid : W) (is : interim ≡ true) where
  pub interim_sent : {T : Type 0} (new : W) (done : T) (result : Result Bool Ended) → Puts wire (text_of answering Interim) old mid (Ok done)
      → ExchangeBy wire answering (λ more. body_step false size request closing (front ++ more)) (drop size front) mid new result
      → ExchangeBy wire answering (λ more. body_step interim size request closing (front ++ more)) (drop size front) old new result
  interim_sent new done result puts e =
      subst (λ (i : Bool). ExchangeBy wire answering (λ more. body_step i size request closing (front ++ more)) (drop size front) old new result) (sym is)
      (text_first wire answering Interim (λ more. body_step true size request closing (front ++ more)) (λ more. body_step false size request closing (front ++ more))
      (body_behind size request closing front) (drop size front) old mid new done result puts e)

  pub interim_failed : {T : Type 0} (failed : Failed) → Puts {T = T} wire (text_of answering Interim) old mid (Err failed)
      → ExchangeBy wire answering (λ more. body_step interim size request closing (front ++ more)) (drop size front) old mid (Err WriteFault)
  interim_failed failed puts =
      subst (λ (i : Bool). ExchangeBy wire answering (λ more. body_step i size request closing (front ++ more)) (drop size front) old mid (Err WriteFault)) (sym is)
      (text_failed wire answering Interim (λ more. body_step true size request closing (front ++ more)) (λ more. body_step false size request closing (front ++ more))
      (body_behind size request closing front) (drop size front) old mid failed puts)

pub no_interim : {W : Type 0} (wire : Ghosts W) (answering : Answering) (interim : Bool) (size : ℕ) (request : Request) (closing : Bool) (front : List ℕ) (old new : W) (result : Result Bool Ended) → interim ≡ false
    → ExchangeBy wire answering (λ more. body_step false size request closing (front ++ more)) (drop size front) old new result
    → ExchangeBy wire answering (λ more. body_step interim size request closing (front ++ more)) (drop size front) old new result
no_interim wire answering interim size request closing front old new result is e =
    subst (λ (i : Bool). ExchangeBy wire answering (λ more. body_step i size request closing (front ++ more)) (drop size front) old new result) (sym is) e
