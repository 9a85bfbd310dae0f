-- Pieces that have a token are literals.
use Rattle.std.proofs.Common.{◌≡◌, ◌≢◌, List, [], ◌∷◌, Some, false, refl}
use Rattle.sq_tokens.specs.Token.{text_tokens}
use Rattle.sq_tokens.specs.Pattern.{without_good_star}
use Rattle.sq_kql.specs.declared.raw.Piece.{Piece}
use Rattle.sq_model.specs.Lists.{is_empty}
use Rattle.sq_typing.specs.Formed.{IsLiteral}
use Rattle.sq_typing.specs.KqlValues.{literal, leaf_of}

pub is_some : {X : Type 0} (xs : List X) → (xs ≢ []) → is_empty xs ≡ false
is_some [] some = absurd (some refl)
is_some (x ∷ xs) some = refl

pub literal_is : (p : Piece) → IsLiteral p → literal p.text ≡ Some (leaf_of p.text)
unfolding literal
literal_is p h = rw (is_some (text_tokens (without_good_star p.text)) h.pattern.1) refl
