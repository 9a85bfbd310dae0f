-- The texts of contents: what a response shows of them, and what the text of a corpus spells.
use Rattle.std.specs.Prelude.{ℕ, List, Bool, true, false, codes}
use Rattle.std.specs.Fmt.{signed_decimal}
use Rattle.sq_schema.specs.Bounds.{is_moment_value}
use Rattle.sq_schema.specs.Moments.{text_of_moment}
use Rattle.sq_model.specs.declared.corpus.Content.{Content}
use Rattle.sq_model.specs.declared.corpus.Content.TheVariants.{Words, Number, Moment, Flag}

-- a text itself, a number in decimal, a moment as YYYY-MM-DDThh:mm:ssZ, and `true` or `false`
abbrev pub shown_text : Content → List ℕ
shown_text (Words text) = text
shown_text (Number n) = signed_decimal n
shown_text (Moment n) = text_of_moment n
shown_text (Flag true) = codes "true"
shown_text (Flag false) = codes "false"

-- a moment has a text in the years 0001 to 9999
abbrev pub has_shown_text : Content → Bool
has_shown_text (Words text) = true
has_shown_text (Number n) = true
has_shown_text (Moment n) = is_moment_value n
has_shown_text (Flag b) = true
