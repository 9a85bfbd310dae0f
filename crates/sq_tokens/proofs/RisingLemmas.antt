-- The spans of tokens rise, since each piece of a text begins where the one before ends.
use Rattle.std.proofs.Common.{◌≡◌, ◌≢◌, ℕ, ◌+◌, ◌<◌, ◌≤◌, Bool, true, false, cond, List, [], ◌∷◌, ◌++◌, length, map, filter, refl, sym, ◌∙◌, ap, subst, arith, zero-add, lit≤}
use Rattle.std.specs.List.{concat}
use Rattle.std.specs.Str.{IsUtf8}
use Rattle.std.proofs.lemmas.List.{length-append}
use Rattle.std.proofs.lemmas.Str.{chars-nil}
use Rattle.unicode_segmentation.specs.Segments.{with_offsets, has_alphanumeric}
use Rattle.unicode_segmentation.specs.Word.{word_bounds, is_word_break}
use Rattle.unicode_segmentation.proofs.SegmentsLemmas.{concat-segments}
use Rattle.sq_tokens.specs.Token.{Token, token_of_word, text_tokens}
use Rattle.sq_tokens.specs.Laws.{AreRising, SpansRise}

-- the tokens of the pieces, of which the first begins at a place
abbrev tokens_from : ℕ → List (List ℕ) → List Token
tokens_from from pieces = map token_of_word (filter (λ (_, piece). has_alphanumeric piece) (with_offsets from pieces))

nothing_in_none : has_alphanumeric [] ≡ false
unfolding has_alphanumeric
nothing_in_none = rw chars-nil refl

some_bytes : (piece : List ℕ) → has_alphanumeric piece ≡ true → 0 < length piece
some_bytes [] has = absurd (let none = nothing_in_none in cc)
some_bytes (byte ∷ bytes) has = omega arith

-- where the first piece ends, the others begin
same_end : (from : ℕ) (piece : List ℕ) (pieces : List (List ℕ)) → from + length piece + length (concat pieces) ≡ from + length (piece ++ concat pieces)
same_end from piece pieces = let whole = length-append piece (concat pieces) in omega (arith, whole)

rising : (low from : ℕ) (pieces : List (List ℕ)) → low ≤ from → AreRising low (from + length (concat pieces)) (tokens_from from pieces)
unfolding with_offsets
rising low from [] before = tt
rising low from (piece ∷ pieces) before =
    let rest = filter (λ (_, p). has_alphanumeric p) (with_offsets (from + length piece) pieces) in
    elim (has_alphanumeric piece) as (λ has. has_alphanumeric piece ≡ has → AreRising low (from + length (piece ++ concat pieces)) (map token_of_word (cond has ((from, piece) ∷ rest) rest))) [
      | true ↦ λ has. (
        before,
        (
          let some = some_bytes piece has in omega (arith, some),
          (
            let whole = length-append piece (concat pieces) in omega (arith, whole),
            subst (λ end. AreRising (from + length piece) end (tokens_from (from + length piece) pieces)) (same_end from piece pieces) (rising (from + length piece) (from + length piece) pieces (omega arith)),
          ),
        ),
      )
      | false ↦ λ has. subst (λ end. AreRising low end (tokens_from (from + length piece) pieces)) (same_end from piece pieces) (rising low (from + length piece) pieces (omega (arith, before)))
    ] refl

pub spans_rise : SpansRise
spans_rise text utf8 =
    subst (λ whole. AreRising 0 (length whole) (text_tokens text)) (concat-segments is_word_break text utf8) (subst (λ end. AreRising 0 end (text_tokens text)) (zero-add (length (concat (word_bounds text)))) (rising 0 0 (word_bounds text) (lit≤ tt)))
