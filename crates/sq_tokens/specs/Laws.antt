-- Laws of the tokens of a text.
use Rattle.std.specs.Prelude.{ℕ, ◌<◌, ◌≤◌, List, [], ◌∷◌, length}
use Rattle.std.specs.Str.{IsUtf8}
use Rattle.sq_tokens.specs.Token.{Token, text_tokens}
use Rattle.sq_tokens.specs.Pattern.{text_phrase}

-- each token begins where the one before ends or behind it, ends behind its beginning, and the last one at the end or before it
abbrev pub AreRising : ℕ → ℕ → List Token → Type 0
AreRising start end [] = Unit {0}
AreRising start end (token ∷ tokens) = (start ≤ token.from) × ((token.from < token.to) × ((token.to ≤ end) × AreRising token.to end tokens))

-- the spans of a text's tokens rise and lie in the text
abbrev pub SpansRise : Type 0
SpansRise = (text : List ℕ) → IsUtf8 text → AreRising 0 (length text) (text_tokens text)

-- a text has no more tokens than bytes, whatever its bytes are, and so has the pattern of a text
pub record TokensWithinBytes : Type 0 where
  pub tokens : (text : List ℕ) → length (text_tokens text) ≤ length text
  pub pattern : (text : List ℕ) → length (text_phrase text).texts ≤ length text
