-- Tokens as a table keeps them: their texts, and their spans beside.
use Rattle.std.specs.Prelude.{ℕ, List, [], ◌∷◌}
use Rattle.sq_tokens.specs.declared.tokens.WordSpan.{WordSpan}
use Rattle.sq_tokens.specs.Token.{Token}

-- the token with this text at this span
abbrev pub token_at : List ℕ → WordSpan → Token
token_at text span = record { text = text; from = span.from; to = span.to }

abbrev pub both_ends : WordSpan → ℕ × ℕ
both_ends span = (span.from, span.to)

-- each text with its span
abbrev pub tokens_at : List (List ℕ) → List WordSpan → List Token
tokens_at [] spans = []
tokens_at (text ∷ texts) [] = []
tokens_at (text ∷ texts) (span ∷ spans) = token_at text span ∷ tokens_at texts spans
