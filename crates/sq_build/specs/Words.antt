-- The texts of a property.
use Rattle.std.specs.Prelude.{ℕ, Bool, if◌then◌else◌, ◌==◌, List, map, filter_map, option_to_list, Option, Some, None}
use Rattle.sq_model.specs.declared.corpus.Content.{Content}
use Rattle.sq_model.specs.declared.corpus.Content.TheVariants.{Words, Number, Moment, Flag}
use Rattle.sq_model.specs.declared.corpus.Value.{Value}
use Rattle.sq_model.specs.Passages.{Passage}
use Rattle.sq_model.specs.Valid.{is_short}
use Rattle.sq_tokens.specs.Token.{text_tokens}

abbrev pub text_in : Content → Option (List ℕ)
text_in (Words text) = Some text
text_in (Number n) = None
text_in (Moment n) = None
text_in (Flag b) = None

-- the text of a value of the property
abbrev pub words_in : ℕ → Value → Option (List ℕ)
words_in property value = if value.property == property then text_in value.content else None

abbrev pub texts_in : List Value → ℕ → List (List ℕ)
texts_in values property = filter_map (words_in property) values

-- short enough to be read as tokens
abbrev pub is_short_value : Value → Bool
is_short_value value = is_short value.content

-- the passage of a value of the property, if it is a text
abbrev pub passages_in : ℕ → Value → List Passage
passages_in property value = map text_tokens (option_to_list (words_in property value))
