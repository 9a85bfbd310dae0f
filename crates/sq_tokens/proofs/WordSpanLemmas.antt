-- A table of tokens, read by its texts and by its spans.
use Rattle.std.proofs.Common.{◌≡◌, ℕ, ◌+◌, List, [], ◌∷◌, ◌++◌, map, length, slice_get, refl, sym, ap, ap₂, ◌∙◌, arith}
use Rattle.std.specs.Option.{option_map}
use Rattle.std.proofs.lemmas.Option.{slice_get-map}
use Rattle.sq_tokens.specs.declared.tokens.WordSpan.{WordSpan}
use Rattle.sq_tokens.specs.Token.{Token, folded, token_of_word, token_text, token_span}
use Rattle.sq_tokens.specs.WordSpans.{token_at, tokens_at, both_ends}

pub length-tokens_at : (texts : List (List ℕ)) (spans : List WordSpan) → length texts ≡ length spans → length (tokens_at texts spans) ≡ length spans
length-tokens_at [] spans e = e
length-tokens_at (text ∷ texts) [] e = absurd (omega (arith, e))
length-tokens_at (text ∷ texts) (span ∷ spans) e =
    let rest : length texts ≡ length spans = omega (arith, e) in
    omega (arith, length-tokens_at texts spans rest)

pub tokens_at-push : (texts : List (List ℕ)) (spans : List WordSpan) (text : List ℕ) (span : WordSpan) → length texts ≡ length spans
    → tokens_at (texts ++ text ∷ []) (spans ++ span ∷ []) ≡ tokens_at texts spans ++ token_at text span ∷ []
tokens_at-push [] [] text span e = refl
tokens_at-push [] (p ∷ spans) text span e = absurd (omega (arith, e))
tokens_at-push (t ∷ texts) [] text span e = absurd (omega (arith, e))
tokens_at-push (t ∷ texts) (p ∷ spans) text span e =
    let rest : length texts ≡ length spans = omega (arith, e) in
    ap (λ more. token_at t p ∷ more) (tokens_at-push texts spans text span rest)

pub texts-tokens_at : (texts : List (List ℕ)) (spans : List WordSpan) → length texts ≡ length spans → map token_text (tokens_at texts spans) ≡ texts
texts-tokens_at [] spans e = refl
texts-tokens_at (text ∷ texts) [] e = absurd (omega (arith, e))
texts-tokens_at (text ∷ texts) (span ∷ spans) e =
    let rest : length texts ≡ length spans = omega (arith, e) in
    ap (λ more. text ∷ more) (texts-tokens_at texts spans rest)

spans-tokens_at : (texts : List (List ℕ)) (spans : List WordSpan) → length texts ≡ length spans
    → map token_span (tokens_at texts spans) ≡ map both_ends spans
spans-tokens_at [] [] e = refl
spans-tokens_at [] (span ∷ spans) e = absurd (omega (arith, e))
spans-tokens_at (text ∷ texts) [] e = absurd (omega (arith, e))
spans-tokens_at (text ∷ texts) (span ∷ spans) e =
    let rest : length texts ≡ length spans = omega (arith, e) in
    ap (λ more. both_ends span ∷ more) (spans-tokens_at texts spans rest)

module _ (texts : List (List ℕ)) (spans : List WordSpan) (tokens : List Token) (same : length texts ≡ length spans) (is : tokens_at texts spans ≡ tokens) where
  pub length-tokens : length tokens ≡ length spans
  length-tokens = ap length (sym is) ∙ length-tokens_at texts spans same

  pub text-token : (i : ℕ) → option_map token_text (slice_get tokens i) ≡ slice_get texts i
  text-token i =
      ap (λ l. option_map token_text (slice_get l i)) (sym is)
      ∙ sym (slice_get-map token_text (tokens_at texts spans) i)
      ∙ ap (λ l. slice_get l i) (texts-tokens_at texts spans same)

  pub span-token : (i : ℕ) → option_map token_span (slice_get tokens i) ≡ option_map both_ends (slice_get spans i)
  span-token i =
      ap (λ l. option_map token_span (slice_get l i)) (sym is)
      ∙ sym (slice_get-map token_span (tokens_at texts spans) i)
      ∙ ap (λ l. slice_get l i) (spans-tokens_at texts spans same)
      ∙ slice_get-map both_ends spans i

abbrev span_of_word : ℕ → List ℕ → WordSpan
span_of_word at word = record { from = at; to = at + length word }

pub tokens_at-push_word : (texts : List (List ℕ)) (spans : List WordSpan) (tokens : List Token) (at : ℕ) (text word : List ℕ)
    → length texts ≡ length spans → tokens_at texts spans ≡ tokens → text ≡ folded word
    → tokens_at (texts ++ text ∷ []) (spans ++ span_of_word at word ∷ []) ≡ tokens ++ token_of_word (at, word) ∷ []
tokens_at-push_word texts spans tokens at text word same is fold =
    tokens_at-push texts spans text (span_of_word at word) same
    ∙ ap₂ (λ l t. l ++ token_at t (span_of_word at word) ∷ []) is fold
