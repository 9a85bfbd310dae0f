-- Lists in which each element comes before the next one.
use Rattle.std.specs.Prelude.{ℕ, ℤ, Bool, true, ◌&&◌, ◌||◌, ◌==◌, nat_lt, int_le, List, [], ◌∷◌}
use Rattle.std.specs.Ordering.{is_lt, nat_cmp}
use Rattle.std.specs.Cmp.Lexicographic.{slice_cmp}
use Rattle.sq_postings.specs.declared.parts.Term.{Term}
use Rattle.sq_postings.specs.declared.parts.Claim.{Claim}
use Rattle.sq_postings.specs.declared.parts.Length.{Length}

-- each element comes before the next one, by a test
abbrev pub rises : {X : Type 0} → (X → X → Bool) → List X → Bool
rises comes_before [] = true
rises comes_before (x ∷ []) = true
rises comes_before (x ∷ y ∷ xs) = comes_before x y && rises comes_before (y ∷ xs)

-- a text comes before another one, byte by byte
abbrev pub text_before : List ℕ → List ℕ → Bool
text_before a b = is_lt (slice_cmp nat_cmp a b)

-- a token of a property comes before a token of a property
abbrev pub token_before : ℕ → List ℕ → ℕ → List ℕ → Bool
token_before property token other_property other = nat_lt property other_property || ((property == other_property) && text_before token other)

-- by property, and then by token
abbrev pub term_before : Term → Term → Bool
term_before a b = token_before a.property a.token b.property b.token

abbrev pub claim_before : Claim → Claim → Bool
claim_before a b = text_before a.claim b.claim

-- by row, and then by ordinal
abbrev pub length_before : Length → Length → Bool
length_before a b = nat_lt a.row b.row || ((a.row == b.row) && nat_lt a.ordinal b.ordinal)

-- by row, and then by number; equal pairs may stand together
abbrev pub pair_up_to : ℕ × ℤ → ℕ × ℤ → Bool
pair_up_to a b = nat_lt a.0 b.0 || ((a.0 == b.0) && int_le a.1 b.1)
