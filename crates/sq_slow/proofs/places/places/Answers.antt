use Rattle.std.proofs.Common.{arith, ◌≡◌, ◌<◌, ◌∷◌, [], ◌++◌, length, ap, sym, ◌∙◌, append_assoc}
use Rattle.sq_tokens.specs.Pattern.{fits_at}
use Rattle.sq_slow.proofs.Steps.{kept_at, passed_at}
use Rattle.sq_slow.proofs.places.places.Goals as goal
use Rattle.sq_slow.proofs.places.places.Goals.{then-fits+in_ok-push, else-fits}

pub loop-i-preserved : goal.loop-i-preserved
loop-i-preserved c =
    let test = fits_at c.args.pattern.now c.args.passage.now in
    let n = length c.args.passage.now in
    let h : c.loop-i.i < n = omega arith in
    elim c.if-fits.branch [
      | then-fits+in_ok-push w ↦ (
          let k = kept_at test c.loop-i.i n h (sym c.fits.ensures ∙ w.if-fits.true) in
          let found : c.if-fits.found ≡ c.loop-i.found ++ c.loop-i.i ∷ [] = grind arith in
          rw (found, append_assoc) (ap (λ v. c.loop-i.found ++ v) (sym k) ∙ c.loop-i.invariant))
      | else-fits w ↦ (
          let k = passed_at test c.loop-i.i n h (sym c.fits.ensures ∙ w.if-fits.false) in
          rw w.found-is (ap (λ v. c.loop-i.found ++ v) (sym k) ∙ c.loop-i.invariant))
    ]
