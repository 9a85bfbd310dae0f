-- Lemmas on lists into which words are written from a place on.
use Rattle.std.proofs.Common.{◌≡◌, ◌≢◌, ℕ, suc, ◌+◌, ◌-◌, ◌*◌, ◌≤◌, List, [], ◌∷◌, ◌++◌, length, take, drop, get_or, set, refl, sym, ap, ◌∙◌, arith, append_assoc, length-append}
use Rattle.std.proofs.Math.Seq.{take-set-lt, take-append_seam, set-append_seam}
use Rattle.std.proofs.lemmas.List.{length-set, length-take-le, take-append-drop, take_more, set-append_left, set-append_right}
use Rattle.std.proofs.lemmas.List.Edits.{paste_all}
use Rattle.std.proofs.lemmas.Slice.{put_mid-paste}
use borrow.Rule.Slice.PartMut.{put_mid}
use Rattle.sq_pool.specs.SizeClass.{written}
use Rattle.sq_pool.proofs.ClassLemmas.{slice-set_same, slice-set_other}

pub length-written : (xs : List ℕ) (at : ℕ) (ys : List ℕ) → length (written xs at ys) ≡ length xs
length-written xs at [] = refl
length-written xs at (y ∷ ys) = length-set (written xs (suc at) ys) at y ∙ length-written xs (suc at) ys

pub take-written : (n : ℕ) (xs : List ℕ) (at : ℕ) (ys : List ℕ) → at + length ys ≤ n → take n (written xs at ys) ≡ written (take n xs) at ys
take-written n xs at [] within = refl
take-written n xs at (y ∷ ys) within =
    take-set-lt n (written xs (suc at) ys) at y (omega (arith, within))
    ∙ ap (λ l. set l at y) (take-written n xs (suc at) ys (omega (arith, within)))

pub written-append_left : (xs zs : List ℕ) (at : ℕ) (ys : List ℕ) → at + length ys ≤ length xs → written (xs ++ zs) at ys ≡ written xs at ys ++ zs
written-append_left xs zs at [] within = refl
written-append_left xs zs at (y ∷ ys) within =
    ap (λ l. set l at y) (written-append_left xs zs (suc at) ys (omega (arith, within)))
    ∙ set-append_left (written xs (suc at) ys) zs at y (omega (arith, within, length-written xs (suc at) ys))

pub written-append_right : (xs zs : List ℕ) (n at : ℕ) (ys : List ℕ) → length xs ≡ n → n ≤ at → written (xs ++ zs) at ys ≡ xs ++ written zs (at - n) ys
written-append_right xs zs n at [] long beyond = refl
written-append_right xs zs n at (y ∷ ys) long beyond =
    let next : suc at - n ≡ suc (at - n) = omega (arith, beyond) in
    ap (λ l. set l at y) (written-append_right xs zs n (suc at) ys long (omega (arith, beyond)))
    ∙ set-append_right xs (written zs (suc at - n) ys) n at y long beyond
    ∙ ap (λ from. xs ++ set (written zs from ys) (at - n) y) next

-- the words stand between what was before them and what was behind them
pub written_is : (xs : List ℕ) (at : ℕ) (ys : List ℕ) → at + length ys ≤ length xs
    → written xs at ys ≡ take at xs ++ (ys ++ drop (at + length ys) xs)
written_is xs at [] within =
    let here : at + length {A = ℕ} [] ≡ at = omega arith in
    rw here (sym (take-append-drop at xs))
written_is xs at (y ∷ ys) within =
    let rest : List ℕ = ys ++ drop (suc at + length ys) xs in
    let before : length (take at xs) ≡ at = length-take-le at xs (omega (arith, within)) in
    let one : suc at ≡ at + 1 = omega arith in
    let more : take (suc at) xs ≡ take at xs ++ get_or xs at 0 ∷ [] = ap (λ n. take n xs) one ∙ take_more xs at 0 (omega (arith, within)) in
    let end : suc at + length ys ≡ at + length (y ∷ ys) = omega arith in
    ap (λ l. set l at y) (written_is xs (suc at) ys (omega (arith, within)) ∙ ap (λ front. front ++ rest) more ∙ append_assoc (take at xs) (get_or xs at 0 ∷ []) rest)
    ∙ ap (λ i. set (take at xs ++ get_or xs at 0 ∷ rest) i y) (sym before)
    ∙ set-append_seam (take at xs) (get_or xs at 0) rest y
    ∙ ap (λ n. take at xs ++ y ∷ (ys ++ drop n xs)) end

pub take_written : (xs : List ℕ) (at : ℕ) (ys : List ℕ) (n : ℕ) → at + length ys ≤ length xs → n ≡ at + length ys → take n (written xs at ys) ≡ take at xs ++ ys
take_written xs at ys n within is =
    let before : length (take at xs) ≡ at = length-take-le at xs (omega (arith, within)) in
    let front : n ≡ length (take at xs ++ ys) = omega (arith, is, before, length-append (take at xs) ys) in
    ap (take n) (written_is xs at ys within ∙ sym (append_assoc (take at xs) ys (drop (at + length ys) xs)))
    ∙ ap (λ m. take m ((take at xs ++ ys) ++ drop (at + length ys) xs)) front
    ∙ take-append_seam (take at xs ++ ys) (drop (at + length ys) xs)

-- a write within a slice changes that slice
pub slice-written_same : (n at w : ℕ) (xs ys : List ℕ) → at + length ys ≤ w
    → take w (drop (n * w) (written xs (n * w + at) ys)) ≡ written (take w (drop (n * w) xs)) at ys
slice-written_same n at w xs [] within = refl
slice-written_same n at w xs (y ∷ ys) within =
    let next : suc (n * w + at) ≡ n * w + suc at = omega arith in
    slice-set_same n at w y (written xs (suc (n * w + at)) ys) (omega (arith, within))
    ∙ ap (λ from. set (take w (drop (n * w) (written xs from ys))) at y) next
    ∙ ap (λ l. set l at y) (slice-written_same n (suc at) w xs ys (omega (arith, within)))

-- and no other
pub slice-written_other : (m n at w : ℕ) (xs ys : List ℕ) → at + length ys ≤ w → m ≢ n
    → take w (drop (m * w) (written xs (n * w + at) ys)) ≡ take w (drop (m * w) xs)
slice-written_other m n at w xs [] within apart = refl
slice-written_other m n at w xs (y ∷ ys) within apart =
    let next : suc (n * w + at) ≡ n * w + suc at = omega arith in
    slice-set_other m n at w y (written xs (suc (n * w + at)) ys) (omega (arith, within)) apart
    ∙ ap (λ from. take w (drop (m * w) (written xs from ys))) next
    ∙ slice-written_other m n (suc at) w xs ys (omega (arith, within)) apart

-- what a list holds after a copy into a part of it
pub put_written : (start end : ℕ) (xs held part words : List ℕ) → held ≡ xs → part ≡ words → end ≡ start + length words → end ≤ length xs
    → put_mid start (end - start) held part ≡ written xs start words
put_written start end xs held part words same copied is within =
    put_mid-paste start (end - start) held part words (length words) copied (omega (arith, is)) refl
    ∙ paste_all held start words (length words) refl
    ∙ ap (λ l. take start l ++ (words ++ drop (start + length words) l)) same
    ∙ sym (written_is xs start words (omega (arith, is, within)))
