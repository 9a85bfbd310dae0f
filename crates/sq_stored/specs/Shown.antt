-- The texts of values, as a response shows them.
use Rattle.std.specs.Prelude.{ℕ, Bool, List, map}
use Rattle.sq_model.specs.declared.corpus.Value.{Value}
use Rattle.sq_model.specs.Passages.{contents}
use Rattle.sq_model.specs.Shown.{shown_text, has_shown_text}

abbrev pub is_shown : Value → Bool
is_shown value = has_shown_text value.content

-- the shown texts of the values of a property, in order
abbrev pub shown_values : List Value → ℕ → List (List ℕ)
shown_values values property = map shown_text (contents values property)
