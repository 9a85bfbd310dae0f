-- More bytes don't change a request that is whole.
use Rattle.std.proofs.Common.{◌≡◌, ℕ, zero, suc, ◌+◌, ◌≤◌, Bool, true, false, List, [], ◌∷◌, ◌++◌, length, take, drop, Option, Some, None, option_map, refl, ap, ◌∙◌, inl, inr, arith, length-append, length-take, nat_lt, Result, Ok, Err}
use Rattle.std.specs.Prelude.{◌⊎◌, ◌||◌, if◌then◌else◌, nat_eq, codes}
use Rattle.std.specs.List.{starts_with}
use Rattle.std.proofs.lemmas.List.{take-append-le, drop-append-le}
use Rattle.std.proofs.lemmas.Bool.Decides.{nat_tests}
use Rattle.std.specs.Bool.{Decides}
use Rattle.std.proofs.lemmas.Slice.Eq.{starts_is}
use Rattle.sq_http.specs.Cut.{Cut, Waiting, TooLong, Whole, cut, cut_at, head_length}
use Rattle.sq_head.specs.Head.{head_of}
use Rattle.sq_http.specs.Owed.{Owed, Job, Step, Open, Closed, Goes, Refusal, Request, Refused, Asks, judged, closes, interim_of, answer_to, step_on, step_body, step_judged, step_cut, step}

some_is : {A : Type 0} (x y : A) → Some x ≡ Some y → x ≡ y
some_is x y e = cc

chosen : {A : Type 0} (t : Bool) (x y z : A) → (if t then x else y) ≡ z → ((t ≡ true) × (x ≡ z)) ⊎ ((t ≡ false) × (y ≡ z))
chosen true x y z h = inl (refl, h)
chosen false x y z h = inr (refl, h)

-- ---- where a head ends

one_more : (found : Option ℕ) (n : ℕ) → option_map suc found ≡ Some n → (m : ℕ) × (found ≡ Some m) × (n ≡ m + 1)
one_more None n h = absurd (cc)
one_more (Some m) n h = (m, refl, omega (arith, some_is (suc m) n h))

eqb_decides : (a b : ℕ) → Decides (nat_eq a b) (a ≡ b)
eqb_decides a b = (λ h. grind (arith, nat_tests, h), λ h. grind (arith, nat_tests, h))

four_bytes : (bytes : List ℕ) → starts_with nat_eq bytes (codes "\r\n\r\n") ≡ true → 4 ≤ length bytes
four_bytes bytes h = omega (arith, ap length ((starts_is eqb_decides bytes (codes "\r\n\r\n") _ refl).0 h))

head_fits : (bytes : List ℕ) (n : ℕ) → head_length bytes ≡ Some n → (4 ≤ n) × (n ≤ length bytes)
head_fits [] n h = absurd (cc)
head_fits (b ∷ bytes) n h = elim (chosen (starts_with nat_eq (b ∷ bytes) (codes "\r\n\r\n")) _ _ _ h) [
  | inl hit ↦ let four = some_is 4 n hit.1 in let some = four_bytes (b ∷ bytes) hit.0 in (omega (arith, four), omega (arith, four, some))
  | inr miss ↦ let m = one_more (head_length bytes) n miss.1 in let fit = head_fits bytes m.0 m.1 in (omega (arith, m.2, fit.0), omega (arith, m.2, fit.1))
]

same_test : (bytes more : List ℕ) → 4 ≤ length bytes → starts_with nat_eq (bytes ++ more) (codes "\r\n\r\n") ≡ starts_with nat_eq bytes (codes "\r\n\r\n")
same_test bytes more four = rw (take-append-le 4 bytes more four) refl

head_more : (bytes more : List ℕ) (n : ℕ) → head_length bytes ≡ Some n → head_length (bytes ++ more) ≡ Some n
head_more [] more n h = absurd (cc)
head_more (b ∷ bytes) more n h =
    let fit = head_fits (b ∷ bytes) n h in
    let same = same_test (b ∷ bytes) more (omega (arith, fit.0, fit.1)) in
    elim (chosen (starts_with nat_eq (b ∷ bytes) (codes "\r\n\r\n")) _ _ _ h) [
      | inl hit ↦ rw (same, hit.0) hit.1
      | inr miss ↦ let m = one_more (head_length bytes) n miss.1 in
          rw (same, miss.0, head_more bytes more m.0 m.1) (ap Some (omega (arith, m.2)))
    ]

take_front : (k : ℕ) (xs ys : List ℕ) → (rest : List ℕ) × (take k (xs ++ ys) ≡ take k xs ++ rest)
take_front zero xs ys = ([], refl)
take_front (suc k) [] ys = (take (suc k) ys, refl)
take_front (suc k) (x ∷ xs) ys = let more = take_front k xs ys in (more.0, ap (λ t. x ∷ t) more.1)

-- ---- what is cut off

cut_whole_at : (found : Option ℕ) (bytes head rest : List ℕ) → cut_at found bytes ≡ Whole head rest → (n : ℕ) × (found ≡ Some n) × (head ≡ take n bytes) × (rest ≡ drop n bytes)
cut_whole_at (Some n) bytes head rest h = (n, refl, cc, cc)
cut_whole_at None bytes head rest h = elim (chosen (nat_lt 8192 (length bytes)) _ _ _ h) [ inl hit ↦ absurd (cc (hit.1)) | inr miss ↦ absurd (cc (miss.1)) ]

cut_long_at : (found : Option ℕ) (bytes : List ℕ) → cut_at found bytes ≡ TooLong → (found ≡ None) × (nat_lt 8192 (length bytes) ≡ true)
cut_long_at (Some n) bytes h = absurd (cc)
cut_long_at None bytes h = elim (chosen (nat_lt 8192 (length bytes)) _ _ _ h) [ inl hit ↦ (refl, hit.0) | inr miss ↦ absurd (cc (miss.1)) ]

cut_at_more : (found : Option ℕ) (bytes more head rest : List ℕ) (n : ℕ) → found ≡ Some n → n ≤ length bytes → head ≡ take n bytes → rest ≡ drop n bytes
    → cut_at found (bytes ++ more) ≡ Whole head (rest ++ more)
cut_at_more found bytes more head rest n is within h r =
    rw (is, h, r, take-append-le n bytes more within, drop-append-le n bytes more within) refl

pub cut_more : (bytes more head rest : List ℕ) → cut bytes ≡ Whole head rest → cut (bytes ++ more) ≡ Whole head (rest ++ more)
unfolding cut
cut_more bytes more head rest h =
    let w = cut_whole_at (head_length (take 8192 bytes)) bytes head rest h in
    let front = take_front 8192 bytes more in
    let fit = head_fits (take 8192 bytes) w.0 w.1 in
    let within : w.0 ≤ length bytes = omega (arith, fit.1, length-take 8192 bytes) in
    let found : head_length (take 8192 (bytes ++ more)) ≡ Some w.0 = ap head_length front.1 ∙ head_more (take 8192 bytes) front.0 w.0 w.1 in
    cut_at_more (head_length (take 8192 (bytes ++ more))) bytes more head rest w.0 found within w.2 w.3

more_bytes : (n m : ℕ) → nat_lt 8192 n ≡ true → (8192 ≤ n) × (nat_lt 8192 (n + m) ≡ true)
more_bytes n m h = (grind (arith, nat_tests, h), grind (arith, nat_tests, h))

pub cut_long : (bytes more : List ℕ) → cut bytes ≡ TooLong → cut (bytes ++ more) ≡ TooLong
unfolding cut
cut_long bytes more h =
    let w = cut_long_at (head_length (take 8192 bytes)) bytes h in
    let many = more_bytes (length bytes) (length more) w.1 in
    rw (take-append-le 8192 bytes more many.0, w.0, length-append bytes more, many.1) refl

-- ---- a request that is whole

-- what more bytes leave of a step
abbrev pub extended : Step → List ℕ → Step
extended (Open owed) more = Open owed
extended (Closed owed) more = Closed owed
extended (Goes owed rest) more = Goes owed (rest ++ more)

abbrev pub IsWhole : Step → Type 0
IsWhole (Open owed) = ⊥
IsWhole (Closed owed) = Unit {0}
IsWhole (Goes owed rest) = Unit {0}

on_more : (closing : Bool) (owed : List Owed) (rest more : List ℕ) → step_on closing owed (rest ++ more) ≡ extended (step_on closing owed rest) more
on_more true owed rest more = refl
on_more false owed rest more = refl

not_short : (n m size : ℕ) → nat_lt n size ≡ false → (size ≤ n) × (nat_lt (n + m) size ≡ false)
not_short n m size h = (grind (arith, nat_tests, h), grind (arith, nat_tests, h))

body_more : (final : Bool) (job : Job) (rest more : List ℕ) (t : Bool) → nat_lt (length rest) job.length ≡ t → IsWhole (step_body final job rest)
    → step_body final job (rest ++ more) ≡ extended (step_body final job rest) more
body_more final job rest more true is whole = absurd (rw is at whole)
body_more final job rest more false is whole =
    let all = not_short (length rest) (length more) job.length is in
    rw (is, length-append rest more, all.1, take-append-le job.length rest more all.0, drop-append-le job.length rest more all.0)
    (on_more (closes (answer_to job.request (job.last || final) (take job.length rest))) (interim_of job ++ answer_to job.request (job.last || final) (take job.length rest) ∷ [])
    (drop job.length rest) more)

judged_more : (final : Bool) (job : Result Job ℕ) (rest more : List ℕ) → IsWhole (step_judged final job rest) → step_judged final job (rest ++ more) ≡ extended (step_judged final job rest) more
judged_more final (Err status) rest more whole = refl
judged_more final (Ok job) rest more whole = body_more final job rest more (nat_lt (length rest) job.length) refl whole

cut_step_more : (final : Bool) (bytes more : List ℕ) (c : Cut) → cut bytes ≡ c → IsWhole (step_cut final c) → step_cut final (cut (bytes ++ more)) ≡ extended (step_cut final c) more
cut_step_more final bytes more Waiting is whole = absurd whole
cut_step_more final bytes more TooLong is whole = rw (cut_long bytes more is) refl
cut_step_more final bytes more (Whole head rest) is whole = rw (cut_more bytes more head rest is) (judged_more final (judged (head_of head)) rest more whole)

pub step_more : (final : Bool) (bytes more : List ℕ) → IsWhole (step final bytes) → step final (bytes ++ more) ≡ extended (step final bytes) more
unfolding step
step_more final bytes more whole = cut_step_more final bytes more (cut bytes) refl whole

-- ---- requests that close

or_true : (x : Bool) → (x || true) ≡ true
or_true true = refl
or_true false = refl

closes_last : (request : Request) (last : Bool) (body : List ℕ) → closes (answer_to request (last || true) body) ≡ true
closes_last (Refused status closing) last body = rw (or_true last, or_true closing) refl
closes_last (Asks caller) last body = or_true last

closing_step : (closing : Bool) (owed all : List Owed) (rest left : List ℕ) → closing ≡ true → step_on closing owed rest ≡ Goes all left → ⊥
closing_step true owed all rest left is h = cc
closing_step false owed all rest left is h = cc

last_body : (job : Job) (rest : List ℕ) (t : Bool) (all : List Owed) (left : List ℕ) → nat_lt (length rest) job.length ≡ t → step_body true job rest ≡ Goes all left → ⊥
last_body job rest true all left is h = let e = rw is at h in cc
last_body job rest false all left is h =
    closing_step (closes (answer_to job.request (job.last || true) (take job.length rest))) _ all (drop job.length rest) left (closes_last job.request job.last (take job.length rest)) (rw is at h)

last_judged : (job : Result Job ℕ) (rest : List ℕ) (all : List Owed) (left : List ℕ) → step_judged true job rest ≡ Goes all left → ⊥
last_judged (Err status) rest all left h = cc
last_judged (Ok job) rest all left h = last_body job rest (nat_lt (length rest) job.length) all left refl h

last_cut : (c : Cut) (all : List Owed) (left : List ℕ) → step_cut true c ≡ Goes all left → ⊥
last_cut Waiting all left h = cc
last_cut TooLong all left h = cc
last_cut (Whole head rest) all left h = last_judged (judged (head_of head)) rest all left h

pub last_closes : (bytes : List ℕ) (all : List Owed) (left : List ℕ) → step true bytes ≡ Goes all left → ⊥
unfolding step
last_closes bytes all left h = last_cut (cut bytes) all left h

-- a text that closes stands last
pub record EndsClosed (all : List Owed) : Type 0 where
  pub front : List Owed
  pub last : Owed
  pub is : all ≡ front ++ last ∷ []
  pub closing : closes last ≡ true

closed_on : (t : Bool) (front all : List Owed) (answer : Owed) (rest : List ℕ) → closes answer ≡ t → step_on t (front ++ answer ∷ []) rest ≡ Closed all → EndsClosed all
closed_on true front all answer rest is h = record { front = front; last = answer; is = cc; closing = is }
closed_on false front all answer rest is h = absurd (cc)

closed_body : (final : Bool) (job : Job) (rest : List ℕ) (t : Bool) (all : List Owed) → nat_lt (length rest) job.length ≡ t → step_body final job rest ≡ Closed all → EndsClosed all
closed_body final job rest true all is h = let e = rw is at h in absurd (cc)
closed_body final job rest false all is h =
    let answer = answer_to job.request (job.last || final) (take job.length rest) in
    closed_on (closes answer) (interim_of job) all answer (drop job.length rest) refl (rw is at h)

closed_judged : (final : Bool) (job : Result Job ℕ) (rest : List ℕ) (all : List Owed) → step_judged final job rest ≡ Closed all → EndsClosed all
closed_judged final (Err status) rest all h = record { front = []; last = Refusal status true; is = cc; closing = refl }
closed_judged final (Ok job) rest all h = closed_body final job rest (nat_lt (length rest) job.length) all refl h

closed_cut : (final : Bool) (c : Cut) (all : List Owed) → step_cut final c ≡ Closed all → EndsClosed all
closed_cut final Waiting all h = absurd (cc)
closed_cut final TooLong all h = record { front = []; last = Refusal 431 true; is = cc; closing = refl }
closed_cut final (Whole head rest) all h = closed_judged final (judged (head_of head)) rest all h

pub step_closed : (final : Bool) (bytes : List ℕ) (all : List Owed) → step final bytes ≡ Closed all → EndsClosed all
unfolding step
step_closed final bytes all h = closed_cut final (cut bytes) all h
