-- The body of an item grows word by word.
use Rattle.std.proofs.Common.{arith, ◌≡◌, ℕ, zero, suc, ◌+◌, ◌*◌, ◌%◌, [], ◌∷◌, ◌++◌, append-nil, ap, sym, ◌∙◌}
use Rattle.std.specs.Prelude.{codes, decimal, flat_map}
use Rattle.std.specs.List.{range_with_len}
use Rattle.std.proofs.lemmas.List.{flat_map_more}
use Rattle.sq_rehearsal.specs.Rehearsal.{word, body_word, opening}

pub range_more : (first count last : ℕ) → first + count ≡ last → range_with_len first (suc count) ≡ range_with_len first count ++ last ∷ []
range_more first zero last e = let same : first ≡ last = omega (arith, e) in ap (λ x. x ∷ []) same
range_more first (suc count) last e = ap (λ rest. first ∷ rest) (range_more (first + 1) count last (omega (arith, e)))

pub opening_first : (i : ℕ) → opening i 0 ≡ codes "w" ++ decimal (i % 50)
unfolding opening
opening_first i =
    let same : i * (0 + 1) + 0 * 0 ≡ i = omega arith in
    append-nil (body_word i 0) ∙ ap (λ n. word (n % 50)) same

pub opening_more : (i before : ℕ) → opening i (before + 1) ≡ opening i before ++ (codes " w" ++ decimal ((i * (before + 1 + 1) + (before + 1) * (before + 1)) % 50))
unfolding opening
opening_more i before =
    let one : before + 1 ≡ suc before = omega arith in
    ap (λ n. body_word i 0 ++ flat_map (λ j. codes " " ++ body_word i j) (range_with_len 1 n)) one
    ∙ ap (λ js. body_word i 0 ++ flat_map (λ j. codes " " ++ body_word i j) js) (range_more 1 before (before + 1) (omega arith))
    ∙ sym (flat_map_more (λ j. codes " " ++ body_word i j) (body_word i 0) (range_with_len 1 before) (before + 1))
