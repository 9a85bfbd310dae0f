-- The text values of an item as tokens, each with its property, as an evaluator keeps them.
use Rattle.std.specs.Prelude.{ℕ, ◌==◌, List, map, filter, filter_map, Option, Some, None}
use Rattle.sq_tokens.specs.Token.{text_tokens}
use Rattle.sq_model.specs.Passages.{Passage}
use Rattle.sq_model.specs.declared.corpus.Content.{Content}
use Rattle.sq_model.specs.declared.corpus.Content.TheVariants.{Words, Number, Moment, Flag}
use Rattle.sq_model.specs.declared.corpus.Value.{Value}
use Rattle.sq_slow.specs.declared.text_value.TextValue.{TextValue}

abbrev pub text_value : ℕ → Content → Option TextValue
text_value property (Words text) = Some (record { property = property; tokens = text_tokens text })
text_value property (Number n) = None
text_value property (Moment n) = None
text_value property (Flag b) = None

-- those of all properties, in the item's order
abbrev pub text_values : List Value → List TextValue
text_values values = filter_map (λ value. text_value value.property value.content) values

-- the passages of one property among them
abbrev pub passages_in : List TextValue → ℕ → List Passage
passages_in texts property = map (λ text. text.tokens) (filter (λ text. text.property == property) texts)
