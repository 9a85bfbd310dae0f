-- The head of a request.
use Rattle.std.proofs.Common.{◌≡◌, ℕ, ◌+◌, ◌<◌, ◌≤◌, Bool, true, List, [], ◌∷◌, ◌++◌, length, drop, refl, sym, ap, subst, ◌∙◌, append_assoc, append-nil, arith, Result, Ok, Err, min, inl, inr}
use Rattle.std.specs.Prelude.{◌||◌, ◌⊎◌}
use Rattle.std.specs.Io.KnownBytes.{IsAtEnd}
use Rattle.std.proofs.lemmas.List.{drop_all, drop-drop}
use Rattle.sq_base.specs.Causes.{Rose}
use Rattle.sq_base.specs.declared.faults.Ended.{Ended}
use Rattle.sq_base.specs.declared.faults.Ended.TheVariants.{Finished, ReadFault}
use Rattle.sq_base.specs.declared.wire.Wire.{Ghosts}
use Rattle.sq_head.specs.Head.{head_of}
use Rattle.sq_http.specs.Body.{body_step}
use Rattle.sq_http.specs.Cut.{cut, Waiting, TooLong, Whole}
use Rattle.sq_http.specs.Gathers.{Gathers, gained}
use Rattle.sq_http.specs.Owed.{Job, Request, Open, Closed, Refusal, judged, step, step_cut, step_judged}
use Rattle.sq_http.specs.Replies.{Answering}
use Rattle.sq_http.specs.Exchange.{Exchange, ExchangeBy, RepliesTo}
use Rattle.sq_http.proofs.ExchangeLemmas.{reads_first, read_ended, read_failed, replied}
use Rattle.sq_http.proofs.StepLemmas.{cut_more}

abbrev pub job_by : (size : ℕ) (interim last : Bool) (request : Request) → Job
job_by size interim last request = record { length = size; interim = interim; last = last; request = request }

module _ {W : Type 0} (wire : Ghosts W) (answering : Answering) (final : Bool) (judgement : Result Job ℕ) (front held : List ℕ) (old new : W) (result : Result Bool Ended) where
  -- the head asks for something
  pub head_taken : (job : Job) (closing : Bool) → judgement ≡ Ok job → closing ≡ (job.last || final) → held ≡ drop job.length front
      → ExchangeBy wire answering (λ more. body_step job.interim job.length job.request closing (front ++ more)) (drop job.length front) old new result
      → ExchangeBy wire answering (λ more. step_judged final judgement (front ++ more)) held old new result
  head_taken job closing is ends rest e =
      subst (λ (j : Result Job ℕ). ExchangeBy wire answering (λ more. step_judged final j (front ++ more)) held old new result) (sym is)
      (subst (λ (h : List ℕ). ExchangeBy wire answering (λ more. step_judged final (Ok job) (front ++ more)) h old new result) (sym rest)
      (subst (λ (c : Bool). ExchangeBy wire answering (λ more. body_step job.interim job.length job.request c (front ++ more)) (drop job.length front) old new result) ends e))

  -- it is refused
  pub head_refused : (status : ℕ) → judgement ≡ Err status → RepliesTo wire answering (Refusal status true) old new result
      → ExchangeBy wire answering (λ more. step_judged final judgement (front ++ more)) held old new result
  head_refused status is r = replied wire answering (Refusal status true) (λ more. step_judged final judgement (front ++ more)) held old new result (rw is refl) r

-- what is left in the buffer
pub drop_used : (bytes front : List ℕ) (size n used : ℕ) → front ≡ drop size bytes → used ≡ size + min (length front) n → drop used bytes ≡ drop n front
drop_used bytes front size n used is all = elim (two (length front) n) [
  | inl less ↦
      let few : used ≡ size + length front = omega (arith, all, less) in
      ap (λ k. drop k bytes) few ∙ sym (drop_twice size (length front) bytes) ∙ ap (drop (length front)) (sym is) ∙ drop_all (length front) front (omega arith)
      ∙ sym (drop_all n front (omega (arith, less)))
  | inr more ↦
      let few : used ≡ size + n = omega (arith, all, more) in
      ap (λ k. drop k bytes) few ∙ sym (drop_twice size n bytes) ∙ ap (drop n) (sym is)
]
  where
    two : (n size : ℕ) → (n < size) ⊎ (size ≤ n)
    two n size = grind arith

    drop_twice : (a b : ℕ) (xs : List ℕ) → drop b (drop a xs) ≡ drop (a + b) xs
    drop_twice a b xs = drop-drop b a xs

module _ (final : Bool) where
  pub head_waits : (bytes : List ℕ) → cut bytes ≡ Waiting → step final bytes ≡ Open []
  unfolding step
  head_waits bytes h = ap (step_cut final) h

  pub head_long : (bytes : List ℕ) → cut bytes ≡ TooLong → step final bytes ≡ Closed (Refusal 431 true ∷ [])
  unfolding step
  head_long bytes h = ap (step_cut final) h

  pub head_came : (old got new head rest : List ℕ) → new ≡ old ++ got → cut new ≡ Whole head rest → (more : List ℕ)
      → step final (old ++ (got ++ more)) ≡ step_judged final (judged (head_of head)) (rest ++ more)
  unfolding step
  head_came old got new head rest is whole more =
      ap (λ t. step_cut final (cut t)) (sym (append_assoc old got more) ∙ ap (λ t. t ++ more) (sym is)) ∙ ap (step_cut final) (cut_more new more head rest whole)

module _ {W : Type 0} (wire : Ghosts W) (answering : Answering) (final : Bool) (before after held : List ℕ) (old mid : W)
    (grows : after ≡ before ++ gained before after)
    (gathers : Gathers (λ first. cut (before ++ first) ≡ Waiting) (wire.left old) (wire.left mid) (wire.sent old) (wire.asked old) (wire.asked mid) (gained before after))
    (same : wire.sent mid ≡ wire.sent old) (later : wire.read_faults old ≤ wire.read_faults mid) (unfailed : wire.write_faults mid ≡ wire.write_faults old) where
  waits : (first : List ℕ) → cut (before ++ first) ≡ Waiting → step final (before ++ first) ≡ Open []
  waits first h = head_waits final (before ++ first) h

  still : cut after ≡ Waiting → step final (before ++ gained before after) ≡ Open []
  still h = waits (gained before after) (subst (λ (t : List ℕ). cut t ≡ Waiting) grows h)

  -- the head came, and then what it leaves
  pub head_whole : (new : W) (result : Result Bool Ended) (head rest : List ℕ) → cut after ≡ Whole head rest
      → ExchangeBy wire answering (λ more. step_judged final (judged (head_of head)) (rest ++ more)) held mid new result → Exchange wire answering final before held old new result
  head_whole new result head rest whole e =
      reads_first wire answering (λ first. cut (before ++ first) ≡ Waiting) (λ first. step final (before ++ first)) waits (gained before after) held old mid gathers same later unfailed
      (λ more. step_judged final (judged (head_of head)) (rest ++ more)) new result (head_came final before (gained before after) after head rest grows whole) e

  -- it is too long
  pub head_over : (new : W) (result : Result Bool Ended) → cut after ≡ TooLong → RepliesTo wire answering (Refusal 431 true) mid new result → Exchange wire answering final before held old new result
  head_over new result long r =
      reads_first wire answering (λ first. cut (before ++ first) ≡ Waiting) (λ first. step final (before ++ first)) waits (gained before after) held old mid gathers same later unfailed
      (λ more. step final (before ++ (gained before after ++ more))) new result (λ more. refl)
      (replied wire answering (Refusal 431 true) (λ more. step final (before ++ (gained before after ++ more))) held mid new result
      (ap (λ t. step final (before ++ t)) (append-nil (gained before after)) ∙ ap (step final) (sym grows) ∙ head_long final after long) r)

  pub head_ended : cut after ≡ Waiting → IsAtEnd (wire.left mid) → Exchange wire answering final before held old mid (Err Finished)
  head_ended h end =
      read_ended wire answering (λ first. cut (before ++ first) ≡ Waiting) (λ first. step final (before ++ first)) waits (gained before after) held old mid gathers same later unfailed (still h) end

  pub head_failed : cut after ≡ Waiting → Rose (wire.read_faults old) (wire.read_faults mid) → Exchange wire answering final before held old mid (Err ReadFault)
  head_failed h rose =
      read_failed wire answering (λ first. cut (before ++ first) ≡ Waiting) (λ first. step final (before ++ first)) waits (gained before after) held old mid gathers same later unfailed (still h) rose
