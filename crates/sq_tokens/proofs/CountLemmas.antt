-- A text has no more tokens than bytes, whatever its bytes are: a character takes a byte, a piece between word boundaries a character, and a token a piece.
use Rattle.std.proofs.Common.{ℕ, zero, suc, ◌+◌, ◌*◌, ◌-◌, ◌≤◌, Bool, true, false, List, [], ◌∷◌, ◌++◌, filter, length, take, length-take, arith}
use Rattle.std.proofs.lemmas.List.{length-map}
use Rattle.std.specs.Prelude.{encode_utf8_all, if◌then◌else◌}
use Rattle.std.specs.Str.{continuation_len, lead_bits, chars_after, chars}
use Rattle.unicode_segmentation.specs.Segments.{Rule, prepend, cut, segments, with_offsets, has_alphanumeric}
use Rattle.unicode_segmentation.specs.Word.{word_bounds, is_word_break}
use Rattle.sq_tokens.specs.Token.{token_of_word, text_tokens, placed_words, token_text}
use Rattle.sq_tokens.specs.Pattern.{has_good_star, without_good_star, text_phrase}
use Rattle.sq_tokens.specs.Laws.{TokensWithinBytes}

chars_from : (n c : ℕ) (bs : List ℕ) → length (chars_after n c bs) ≤ 1 + length bs
chars_from zero c [] = omega arith
chars_from zero c (b ∷ bs) = omega (arith, chars_from (continuation_len b) (lead_bits b) bs)
chars_from (suc n) c [] = omega arith
chars_from (suc n) c (b ∷ bs) = omega (arith, chars_from n (c * 64 + (b - 128)) bs)

few_chars : (text : List ℕ) → length (chars text) ≤ length text
unfolding chars
few_chars [] = omega arith
few_chars (b ∷ bs) = omega (arith, chars_from (continuation_len b) (lead_bits b) bs)

prepend_few : (part : List ℕ) (pieces : List (List ℕ)) → length (prepend part pieces) ≤ 1 + length pieces
prepend_few part [] = omega arith
prepend_few part (piece ∷ pieces) = omega arith

one_more : (breaks : Bool) (c : ℕ) (pieces : List (List ℕ)) (n : ℕ) → length pieces ≤ n → length (if breaks then (c ∷ []) ∷ pieces else prepend (c ∷ []) pieces) ≤ 1 + n
one_more true c pieces n few = omega (arith, few)
one_more false c pieces n few = omega (arith, few, prepend_few (c ∷ []) pieces)

few_pieces : (rule : Rule) (before cs after : List ℕ) → length (cut rule before cs after) ≤ length cs
unfolding cut
few_pieces rule before [] after = omega arith
few_pieces rule before (c ∷ cs) after =
    let few = one_more (rule (c ∷ before) (cs ++ after)) c (cut rule (c ∷ before) cs after) (length cs) (few_pieces rule (c ∷ before) cs after) in
    omega (arith, few)

few_bounds : (text : List ℕ) → length (word_bounds text) ≤ length text
unfolding segments
few_bounds text =
    omega (arith, length-map (cut is_word_break [] (chars text) []) encode_utf8_all, few_pieces is_word_break [] (chars text) [], few_chars text)

placed_few : (from : ℕ) (pieces : List (List ℕ)) → length (with_offsets from pieces) ≤ length pieces
unfolding with_offsets
placed_few from [] = omega arith
placed_few from (piece ∷ pieces) = omega (arith, placed_few (from + length piece) pieces)

kept_on : {X : Type 0} (keep : Bool) (x : X) (xs : List X) (n : ℕ) → length xs ≤ n → length (if keep then x ∷ xs else xs) ≤ 1 + n
kept_on true x xs n few = omega (arith, few)
kept_on false x xs n few = omega (arith, few)

kept_few : {X : Type 0} (p : X → Bool) (xs : List X) → length (filter p xs) ≤ length xs
kept_few p [] = omega arith
kept_few p (x ∷ xs) = let few = kept_on (p x) x (filter p xs) (length xs) (kept_few p xs) in omega (arith, few)

few_tokens : (text : List ℕ) → length (text_tokens text) ≤ length text
few_tokens text =
    omega (
      arith,
      length-map (placed_words text) token_of_word,
      kept_few (λ (_, piece). has_alphanumeric piece) (with_offsets 0 (word_bounds text)),
      placed_few 0 (word_bounds text),
      few_bounds text,
    )

front_few : (good : Bool) (text : List ℕ) (n : ℕ) → length (if good then take n text else text) ≤ length text
front_few true text n = omega (arith, length-take n text)
front_few false text n = omega arith

few_texts : (text : List ℕ) → length (text_phrase text).texts ≤ length text
few_texts text =
    let front = without_good_star text in
    omega (arith, length-map (text_tokens front) token_text, few_tokens front, front_few (has_good_star text) text (length text - 1))

pub tokens_within_bytes : TokensWithinBytes
tokens_within_bytes = record { tokens = few_tokens; pattern = few_texts }
