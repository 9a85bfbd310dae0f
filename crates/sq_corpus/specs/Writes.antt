-- What a writer asks of the values that it writes.
use Rattle.std.specs.Prelude.{Bool}
use Rattle.std.specs.List.{list_all}
use Rattle.sq_model.specs.declared.corpus.Item.{Item}
use Rattle.sq_model.specs.declared.corpus.Value.{Value}
use Rattle.sq_model.specs.Shown.{has_shown_text}

abbrev pub is_shown : Value → Bool
is_shown value = has_shown_text value.content

-- each value has a text
abbrev pub are_shown : Item → Bool
are_shown item = list_all is_shown item.values
