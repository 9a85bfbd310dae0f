-- Where quoted text may be cut, and when a piece has a token.
use Rattle.std.proofs.Common.{◌≡◌, ◌≢◌, ℕ, ◌+◌, ◌-◌, ◌<◌, ◌≤◌, Bool, true, false, List, [], ◌∷◌, length, get_or, Option, Some, None, Ok, Err, refl, sym, subst, ap, ◌++◌, IfSome, length-take, length-drop, ◌∙◌, ◌⊎◌, inl, inr, drop, arith}
use Rattle.std.proofs.lemmas.Bool.Decides.{nat_tests}
use Rattle.std.proofs.lemmas.Str.{IsCharBoundary-before_ascii, IsCharBoundary-after_ascii, IsCharBoundary-end}
use Rattle.std.specs.List.{slice_range, AllByRecursion}
use Rattle.std.specs.Prelude.{if◌then◌else◌, take, ◌==◌}
use Rattle.std.proofs.lemmas.List.Quantifiers.{position-Some}
use Rattle.sq_tokens.specs.Pattern.{has_good_star, without_good_star, first_bad_star}
use Rattle.std.proofs.lemmas.List.{get_or-take, get_or-drop}
use Rattle.std.proofs.Math.Logic.{⊎_elim}
use Rattle.std.proofs.Math.Nat.{eq-or-lt_of_le}
use Rattle.std.specs.Str.{IsUtf8, IsCharBoundary}
use Rattle.sq_base.specs.declared.faults.QueryFault.{QueryFault}
use Rattle.sq_lex.specs.declared.codes.TheConstants.{BAD_STAR}
use Rattle.sq_lex.specs.Bytes.{TextBytes, is_blank, is_in}
use Rattle.sq_lex.specs.declared.class.Class.{Class}
use Rattle.sq_lex.specs.declared.class.Class.TheVariants as class
use Rattle.sq_lex.specs.Kql.{cut, starless, has_some}
use Rattle.sq_lex.specs.Pieces.{IsPlaceAfter, IsPieceAfter}

-- ---- where a run of bytes ends

blank_ascii : (b : ℕ) → is_blank b ≡ true → b < 128
blank_ascii b h = grind (arith, nat_tests)

name_ascii : (b : ℕ) → is_in class.Name b ≡ true → b < 128
name_ascii b h = grind (arith, nat_tests)

digit_ascii : (b : ℕ) → is_in class.Digit b ≡ true → b < 128
digit_ascii b h = grind (arith, nat_tests)

sign_ascii : (b : ℕ) → is_in class.Sign b ≡ true → b < 128
sign_ascii b h = grind (arith, nat_tests)

word_ascii : (b : ℕ) → is_in class.Word b ≡ false → b < 128
word_ascii b h = grind (arith, nat_tests)

item_ascii : (b : ℕ) → is_in class.Item b ≡ false → b < 128
item_ascii b h = grind (arith, nat_tests)

parameter_ascii : (b : ℕ) → is_in class.Parameter b ≡ false → b < 128
parameter_ascii b h = grind (arith, nat_tests)

term_ascii : (b : ℕ) → is_in class.Term b ≡ false → b < 128
term_ascii b h = grind (arith, nat_tests)

quoted_ascii : (b : ℕ) → is_in class.Quoted b ≡ false → b < 128
quoted_ascii b h = grind (arith, nat_tests)

-- a run that goes on through ASCII alone ends between characters
through_ascii : (z : TextBytes) (at to : ℕ) (P : ℕ → Type 0) → ((b : ℕ) → P b → b < 128) → IsUtf8 z → IsCharBoundary z at → at ≤ to → to ≤ length z
    → (at < to → P (get_or z (to - 1) 0)) → IsCharBoundary z to
through_ascii z at to P ascii utf8 start ordered within last =
    ⊎_elim (λ same. let Between : ℕ → Type 0 = λ n. IsCharBoundary z n in subst Between same start)
    (λ below. let behind : to - 1 + 1 ≡ to = omega arith in let Between : ℕ → Type 0 = λ n. IsCharBoundary z n in
    subst Between behind (IsCharBoundary-after_ascii z (to - 1) utf8 (omega arith) (ascii _ (last below))))
    (eq-or-lt_of_le ordered)

-- a run that stops at ASCII alone ends between characters
at_ascii : (z : TextBytes) (to : ℕ) (P : ℕ → Type 0) → ((b : ℕ) → P b → b < 128) → to ≤ length z → (to < length z → P (get_or z to 0)) → IsCharBoundary z to
at_ascii z to P ascii within stops =
    ⊎_elim (λ same. let Between : ℕ → Type 0 = λ n. IsCharBoundary z n in subst Between (sym same) (IsCharBoundary-end z))
    (λ below. IsCharBoundary-before_ascii z to below (ascii _ (stops below)))
    (eq-or-lt_of_le within)

pub run_between : (c : Class) (z : TextBytes) (at to : ℕ) → IsUtf8 z → IsCharBoundary z at → at ≤ to → to ≤ length z
    → (to < length z → is_in c (get_or z to 0) ≡ false) → (at < to → is_in c (get_or z (to - 1) 0) ≡ true) → IsCharBoundary z to
run_between class.Blank z at to utf8 start ordered within stops last = through_ascii z at to (λ b. is_blank b ≡ true) blank_ascii utf8 start ordered within last
run_between class.Name z at to utf8 start ordered within stops last = through_ascii z at to (λ b. is_in class.Name b ≡ true) name_ascii utf8 start ordered within last
run_between class.Digit z at to utf8 start ordered within stops last = through_ascii z at to (λ b. is_in class.Digit b ≡ true) digit_ascii utf8 start ordered within last
run_between class.Sign z at to utf8 start ordered within stops last = through_ascii z at to (λ b. is_in class.Sign b ≡ true) sign_ascii utf8 start ordered within last
run_between class.Word z at to utf8 start ordered within stops last = at_ascii z to (λ b. is_in class.Word b ≡ false) word_ascii within stops
run_between class.Item z at to utf8 start ordered within stops last = at_ascii z to (λ b. is_in class.Item b ≡ false) item_ascii within stops
run_between class.Parameter z at to utf8 start ordered within stops last = at_ascii z to (λ b. is_in class.Parameter b ≡ false) parameter_ascii within stops
run_between class.Term z at to utf8 start ordered within stops last = at_ascii z to (λ b. is_in class.Term b ≡ false) term_ascii within stops
run_between class.Quoted z at to utf8 start ordered within stops last = at_ascii z to (λ b. is_in class.Quoted b ≡ false) quoted_ascii within stops

-- ---- places and pieces

-- the place behind an ASCII byte
pub place_past : (z : TextBytes) (before at : ℕ) → IsUtf8 z → before ≤ at → get_or z at 0 < 128 → at < length z → IsPlaceAfter z before (at + 1)
place_past z before at utf8 ordered ascii within = record { moves = omega arith; between = IsCharBoundary-after_ascii z at utf8 within ascii }

-- the place behind two bytes of which the second is ASCII
pub place_past_two : (z : TextBytes) (before at : ℕ) → IsUtf8 z → before ≤ at → get_or z (at + 1) 0 < 128 → at + 1 < length z → IsPlaceAfter z before (at + 2)
place_past_two z before at utf8 ordered ascii within =
    let same : at + 1 + 1 ≡ at + 2 = omega arith in
    let After : ℕ → Type 0 = λ n. IsPlaceAfter z before n in subst After same (place_past z before (at + 1) utf8 (omega arith) ascii within)

-- the place behind a relation of one or two bytes
pub place_past_relation : (z : TextBytes) (at name_to len : ℕ) → IsUtf8 z → at ≤ name_to → get_or z name_to 0 < 128 → name_to < length z
    → ((len ≡ 1) ⊎ ((len ≡ 2) × (get_or z (name_to + 1) 0 < 128) × (name_to + 1 < length z))) → IsPlaceAfter z at (name_to + len)
place_past_relation z at name_to len utf8 ordered ascii within (inl one) =
    let After : ℕ → Type 0 = λ n. IsPlaceAfter z at (name_to + n) in subst After (sym one) (place_past z at name_to utf8 ordered ascii within)
place_past_relation z at name_to len utf8 ordered ascii within (inr two) =
    let After : ℕ → Type 0 = λ n. IsPlaceAfter z at (name_to + n) in subst After (sym two.0) (place_past_two z at name_to utf8 ordered two.1 two.2)

-- a byte of the part of a text between two places
pub part_byte : (z : TextBytes) (from to i : ℕ) → i < to - from → get_or (slice_range z from to) i 0 ≡ get_or z (from + i) 0
part_byte z from to i within = get_or-take (to - from) (drop from z) i 0 within ∙ get_or-drop from z i 0

-- dots in the part of a text between two places, as dots of the text
pub dots_part : (z : TextBytes) (from to : ℕ) (found : Option ℕ) → from ≤ to → to ≤ length z
    → IfSome found (λ dots. (from ≤ dots) × (dots + 2 ≤ from + length (slice_range z from to)))
    → IfSome found (λ dots. (get_or (slice_range z from to) (dots - from) 0 ≡ 46) × (get_or (slice_range z from to) (dots - from + 1) 0 ≡ 46))
    → IfSome found (λ dots. (from ≤ dots) × (dots + 2 ≤ to) × (get_or z dots 0 ≡ 46) × (get_or z (dots + 1) 0 ≡ 46))
dots_part z from to None ordered within inside are = tt
dots_part z from to (Some dots) ordered within inside are =
    let len : length (slice_range z from to) ≡ to - from = simp (length-take, length-drop) (omega arith) in
    let room : dots + 2 ≤ to = omega (arith, inside.0, inside.1) in
    let after : from ≤ dots = inside.0 in
    let first : from + (dots - from) ≡ dots = omega arith in
    let second : from + (dots - from + 1) ≡ dots + 1 = omega arith in (
      after,
      room,
      ap (λ i. get_or z i 0) (sym first) ∙ (sym (part_byte z from to (dots - from) (omega arith)) ∙ are.0),
      ap (λ i. get_or z i 0) (sym second) ∙ (sym (part_byte z from to (dots - from + 1) (omega arith)) ∙ are.1),
    )

pub not_zero : (b : ℕ) → 0 < b → b ≢ 0
not_zero b some none = absurd (omega arith)

pieces_more : {X : Type 0} (P : X → Type 0) (xs : List X) (x : X) → AllByRecursion P xs → P x → AllByRecursion P (xs ++ x ∷ [])
pieces_more P [] x all one = (one, tt)
pieces_more P (y ∷ ys) x all one = (all.0, pieces_more P ys x all.1 one)

pub pieces_push : {X : Type 0} (P : X → Type 0) (xs ys : List X) (x : X) → AllByRecursion P xs → P x → ys ≡ xs ++ x ∷ [] → AllByRecursion P ys
pieces_push {X} P xs ys x all one is = let Of = λ (l : List X). AllByRecursion P l in subst Of (sym is) (pieces_more P xs x all one)

quote_stops : (b : ℕ) → is_in class.Quoted b ≡ false → b ≡ 34
quote_stops b h = grind (arith, nat_tests)

pub quotation_at : (z : TextBytes) (at to : ℕ) → IsUtf8 z → at < to → to < length z → get_or z at 0 ≡ 34 → is_in class.Quoted (get_or z to 0) ≡ false
    → IsPieceAfter z at (cut (at + 1) to true)
quotation_at z at to utf8 ordered within opens closes =
    let closing : get_or z to 0 < 128 = let e : get_or z to 0 ≡ 34 = quote_stops (get_or z to 0) closes in omega arith in
    let opening : get_or z at 0 < 128 = omega arith in
    record {
      piece = record { ordered = omega arith; start = IsCharBoundary-after_ascii z at utf8 (omega arith) opening; end = IsCharBoundary-before_ascii z to within closing };
      place = place_past z at to utf8 (omega arith) closing within;
    }

shorter : (b : Bool) (n : ℕ) (xs : TextBytes) → length (if b then take n xs else xs) ≤ length xs
shorter true n xs = simp length-take (omega arith)
shorter false n xs = omega arith

-- a bad star lies in its text
pub bad_star_within : (text : TextBytes) (at : ℕ) → first_bad_star text ≡ Some at → at < length text
bad_star_within text at is =
    let below = (position-Some (λ b. b == 42) (without_good_star text) at 0 is).0 in
    omega (arith, below, shorter (has_good_star text) (length text - 1) text)

pub judged_ok : {X : Type 0} (from : ℕ) (star : Option ℕ) (tokens : List X) → ((at : ℕ) → star ≡ Some at → ⊥) → ((star ≡ None) × (tokens ≡ []) → ⊥)
    → starless from star (has_some tokens) ≡ Ok true
judged_ok from (Some at) tokens no_star some = absurd (no_star at refl)
judged_ok from None [] no_star some = absurd (some (refl, refl))
judged_ok from None (x ∷ xs) no_star some = refl

pub judged_star : (has : Bool) (from at : ℕ) (star : Option ℕ) (fault : QueryFault) → star ≡ Some at → fault ≡ record { code = BAD_STAR; at = from + at } → starless from star has ≡ Err fault
judged_star has from at star fault is refused = rw (is, refused) refl
