-- Where a text is cut at a separator.
use Rattle.std.proofs.Common.{◌≡◌, ℕ, suc, ◌+◌, ◌-◌, ◌<◌, Bool, true, false, cond, not, ◌==◌, List, [], ◌∷◌, ◌++◌, append_assoc, map, take, drop, length, length-drop, refl, ap, ◌∙◌, arith, Some, None, position, Bor}
use Rattle.std.proofs.lemmas.Grind.{common_steps}
use Rattle.std.proofs.lemmas.Bool.Decides.{nat_tests}
use Rattle.std.proofs.lemmas.List.{map-append}
use Rattle.std.proofs.lemmas.List.Sums.{prefix_len-le-length}
use Rattle.std.specs.List.{position_or_len, before_first, after_first}
use Rattle.sq_corpus.specs.Pieces.{pieces, onto_first, lines_of, fields_of}

-- the test of one byte, where the bytes behind it are cut as this says
cut_at : (t : Bool) (n separator byte : ℕ) (bytes : List ℕ) → (n < length bytes → pieces separator bytes ≡ take n bytes ∷ pieces separator (drop (n + 1) bytes))
    → cond (not t) (1 + n) 0 < length (byte ∷ bytes)
    → cond t ([] ∷ pieces separator bytes) (onto_first byte (pieces separator bytes))
    ≡ take (cond (not t) (1 + n) 0) (byte ∷ bytes) ∷ pieces separator (drop (cond (not t) (1 + n) 0 + 1) (byte ∷ bytes))
cut_at true n separator byte bytes behind within = refl
cut_at false n separator byte bytes behind within =
    let inside : n < length bytes = omega arith in
    let next : 1 + n ≡ suc n = omega arith in
    let beyond : suc n + 1 ≡ suc (n + 1) = omega arith in
    ap (onto_first byte) (behind inside) ∙ rw (next, beyond) refl

pub pieces-cut : (separator : ℕ) (bytes : List ℕ) → position_or_len (λ b. b == separator) bytes < length bytes
    → pieces separator bytes
    ≡ take (position_or_len (λ b. b == separator) bytes) bytes ∷ pieces separator (drop (position_or_len (λ b. b == separator) bytes + 1) bytes)
pieces-cut separator [] within = absurd (omega arith)
pieces-cut separator (byte ∷ bytes) within =
    cut_at (byte == separator) (position_or_len (λ b. b == separator) bytes) separator byte bytes (pieces-cut separator bytes) within

whole_at : (t : Bool) (n separator byte : ℕ) (bytes : List ℕ) → (n ≡ length bytes → pieces separator bytes ≡ bytes ∷ [])
    → cond (not t) (1 + n) 0 ≡ length (byte ∷ bytes)
    → cond t ([] ∷ pieces separator bytes) (onto_first byte (pieces separator bytes)) ≡ (byte ∷ bytes) ∷ []
whole_at true n separator byte bytes behind none = absurd (omega arith)
whole_at false n separator byte bytes behind none = ap (onto_first byte) (behind (omega arith))

pub pieces-whole : (separator : ℕ) (bytes : List ℕ) → position_or_len (λ b. b == separator) bytes ≡ length bytes
    → pieces separator bytes ≡ bytes ∷ []
pieces-whole separator [] none = refl
pieces-whole separator (byte ∷ bytes) none =
    whole_at (byte == separator) (position_or_len (λ b. b == separator) bytes) separator byte bytes (pieces-whole separator bytes) none

-- what `position` says, from its test
found_at : (t : Bool) (n at : ℕ) → Some at ≡ cond t (Some n) None → (t ≡ true) × (n ≡ at)
found_at true n at e = (refl, grind (arith, e))
found_at false n at e = cc

none_at : (t : Bool) (n : ℕ) → None ≡ cond t (Some n) None → t ≡ false
none_at true n e = cc
none_at false n e = refl

rest_taken : (at : ℕ) (bytes : List ℕ) → take (length bytes - at) (drop at bytes) ≡ drop at bytes
rest_taken at bytes = grind (arith, common_steps)

pub lines_of-cut : (bytes : List ℕ) (at : ℕ) → Some at ≡ position (λ byte. byte == 10) bytes → at < length bytes
    → (lines_of bytes ≡ take at bytes ∷ lines_of (take (length bytes - (at + 1)) (drop (at + 1) bytes)))
    × (length (take (length bytes - (at + 1)) (drop (at + 1) bytes)) < length bytes)
lines_of-cut bytes at found within =
    let parts = found_at _ _ _ found in
    let inside : position_or_len (λ byte. byte == 10) bytes < length bytes = omega (arith, parts.1) in
    let cut = pieces-cut 10 bytes inside in
    let whole = rest_taken (at + 1) bytes in
    (rw whole (rw parts.1 at cut), rw (whole, length-drop) (omega arith))

pub lines_of-whole : (bytes : List ℕ) → None ≡ position (λ byte. byte == 10) bytes → lines_of bytes ≡ bytes ∷ []
lines_of-whole bytes none =
    let test = none_at _ _ none in
    let most = prefix_len-le-length (λ byte. not (byte == 10)) bytes in
    pieces-whole 10 bytes (grind (arith, nat_tests, test, most))

-- one field more is cut off
pub fields-cut : (fields : List (Bor (List ℕ))) (field : Bor (List ℕ)) (rest behind : List ℕ) (all : List (List ℕ))
    → map (λ f. f.now) fields ++ fields_of rest ≡ all
    → field.now ≡ before_first (λ byte. byte == 9) rest → behind ≡ after_first (λ byte. byte == 9) rest
    → position_or_len (λ byte. byte == 9) rest < length rest
    → map (λ f. f.now) (fields ++ field ∷ []) ++ fields_of behind ≡ all
fields-cut fields field rest behind all kept front back within =
    let cut = pieces-cut 9 rest within in
    rw (map-append, append_assoc, front, back) (rw cut at kept)

-- what is left is the last field
pub fields-whole : (fields : List (Bor (List ℕ))) (rest : Bor (List ℕ)) (all : List (List ℕ))
    → map (λ f. f.now) fields ++ fields_of rest.now ≡ all
    → position_or_len (λ byte. byte == 9) rest.now ≡ length rest.now
    → map (λ f. f.now) (fields ++ rest ∷ []) ≡ all
fields-whole fields rest all kept none =
    let whole = pieces-whole 9 rest.now none in
    rw map-append (rw whole at kept)
