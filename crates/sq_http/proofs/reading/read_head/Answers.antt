use Rattle.std.proofs.Common.{◌≡◌, ◌≤◌, ◌++◌, sym, refl, ap, length, arith, subst, ◌∙◌, List, ℕ, Some, None, take, drop, length-take, false}
use Rattle.std.specs.Prelude.{nat_lt}
use Rattle.std.proofs.lemmas.Bool.Decides.{nat_tests}
use Rattle.sq_http.specs.Cut.{cut, head_length, Waiting, Whole}
use Rattle.sq_http.specs.Gathers.{held, gained}
use Rattle.sq_http.proofs.GathersLemmas.{Gathers-fill, held-more}
use Rattle.sq_http.proofs.reading.read_head.Goals as goal

not_more : (n : ℕ) → n ≤ 8192 → nat_lt 8192 n ≡ false
not_more n h = grind (arith, nat_tests)

-- no head has come
waits : (bytes front : List ℕ) → front ≡ take 8192 bytes → head_length front ≡ None → length bytes ≤ 8192 → cut bytes ≡ Waiting
unfolding cut
waits bytes front is none few = rw (sym is, none, not_more (length bytes) few) refl

-- a head has come
found : (bytes front : List ℕ) (size : ℕ) → front ≡ take 8192 bytes → head_length front ≡ Some size → cut bytes ≡ Whole (take size bytes) (drop size bytes)
unfolding cut
found bytes front size is some = rw (sym is, some) refl

within : (bytes front : List ℕ) (size : ℕ) → front ≡ take 8192 bytes → size ≤ length front → size ≤ length bytes
within bytes front size is few = omega (arith, few, ap length is, length-take 8192 bytes)

pub reading-preserved : goal.reading-preserved
reading-preserved g c =
    let inv = c.reading.invariant in
    let fill = c.fill.ensures in
    let waiting : cut (held c.reading.buffer) ≡ Waiting = waits (held c.reading.buffer) _ (c.front.ensures ∙ ap (take 8192) c.as_slice.ensures) (sym c.head_length.ensures.value ∙ c.in-None.is) (omega (arith, c.if-len-gt-MOST_HEAD_BYTES.false, c.len.ensures)) in
    let opened : cut (held c.args.buffer.now ++ gained (held c.args.buffer.now) (held c.reading.buffer)) ≡ Waiting = subst (λ (t : List ℕ). cut t ≡ Waiting) inv.0 waiting in (
      held-more (λ first. cut (held c.args.buffer.now ++ first) ≡ Waiting) _ _ _ inv.0 fill.held,
      Gathers-fill (λ first. cut (held c.args.buffer.now ++ first) ≡ Waiting) _ _ _ inv.0 fill.held _ _ _ _ _ _ _ _ inv.4 opened inv.1 fill.gathers,
      omega (arith, fill.most, c.len-in-reading.ensures, c.if-len-gt-MOST_HEAD_BYTES.false, c.len.ensures),
      fill.room ∙ inv.3,
      fill.sent ∙ inv.4,
      omega (arith, fill.cause.later, inv.5),
      fill.write_faults ∙ inv.6,
    )

pub returns-in_err-fill-clause-gathers : goal.returns-in_err-fill-clause-gathers
returns-in_err-fill-clause-gathers g c =
    let inv = c.reading.invariant in
    let fill = c.fill.ensures in
    let waiting : cut (held c.reading.buffer) ≡ Waiting = waits (held c.reading.buffer) _ (c.front.ensures ∙ ap (take 8192) c.as_slice.ensures) (sym c.head_length.ensures.value ∙ c.in-None.is) (omega (arith, c.if-len-gt-MOST_HEAD_BYTES.false, c.len.ensures)) in
    let opened : cut (held c.args.buffer.now ++ gained (held c.args.buffer.now) (held c.reading.buffer)) ≡ Waiting = subst (λ (t : List ℕ). cut t ≡ Waiting) inv.0 waiting in
    Gathers-fill (λ first. cut (held c.args.buffer.now ++ first) ≡ Waiting) _ _ _ inv.0 fill.held _ _ _ _ _ _ _ _ inv.4 opened inv.1 fill.gathers

pub returns-then-not-branch-clause-gathers : goal.returns-then-not-branch-clause-gathers
returns-then-not-branch-clause-gathers g c =
    let inv = c.reading.invariant in
    let fill = c.fill.ensures in
    let waiting : cut (held c.reading.buffer) ≡ Waiting = waits (held c.reading.buffer) _ (c.front.ensures ∙ ap (take 8192) c.as_slice.ensures) (sym c.head_length.ensures.value ∙ c.in-None.is) (omega (arith, c.if-len-gt-MOST_HEAD_BYTES.false, c.len.ensures)) in
    let opened : cut (held c.args.buffer.now ++ gained (held c.args.buffer.now) (held c.reading.buffer)) ≡ Waiting = subst (λ (t : List ℕ). cut t ≡ Waiting) inv.0 waiting in
    Gathers-fill (λ first. cut (held c.args.buffer.now ++ first) ≡ Waiting) _ _ _ inv.0 fill.held _ _ _ _ _ _ _ _ inv.4 opened inv.1 fill.gathers

pub returns-in-Some-clause-heading : goal.returns-in-Some-clause-heading
returns-in-Some-clause-heading g c =
    let front = c.front.ensures ∙ ap (take 8192) c.as_slice.ensures in
    (found (held c.reading.buffer) _ c.in-Some.size front (sym c.head_length.ensures.value ∙ c.in-Some.is), within (held c.reading.buffer) _ c.in-Some.size front c.in-Some.ensures.within)
