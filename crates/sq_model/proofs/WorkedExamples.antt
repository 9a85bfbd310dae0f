-- Worked examples over three items of an archive. The tokens of their texts are a premise, since the tables of
-- Unicode are too long to compute with.
use Rattle.std.proofs.Common.{◌≡◌, ℕ, ◌+◌, Bool, true, false, not, if◌then◌else◌, List, [], ◌∷◌, ◌++◌, length, ℤ, pos, refl}
use Rattle.std.specs.Prelude.{codes, ◌==◌}
use Rattle.sq_schema.specs.declared.property.Property.{Property}
use Rattle.sq_schema.specs.declared.property.Kind.TheVariants as kind
use Rattle.sq_tokens.specs.Token.{Token, text_tokens}
use Rattle.sq_model.specs.declared.leaf.Leaf.{Leaf}
use Rattle.sq_model.specs.declared.corpus.Content.TheVariants.{Words, Number}
use Rattle.sq_model.specs.declared.corpus.Item.{Item}
use Rattle.sq_model.specs.declared.corpus.Value.{Value}
use Rattle.sq_model.specs.declared.kql.Joiner.TheVariants as joiner
use Rattle.sq_model.specs.declared.kql.Sign.{Sign}
use Rattle.sq_model.specs.declared.kql.Sign.TheVariants.{Plain, Plus, Minus}
use Rattle.sq_model.specs.declared.kql.Relation.TheVariants.{Has, Equal, Less, Unequal, Range}
use Rattle.sq_model.specs.declared.kql.KOperand.{KOperand}
use Rattle.sq_model.specs.declared.kql.KTree.{KTree}
use Rattle.sq_model.specs.declared.kql.KTree.TheVariants as k
use Rattle.sq_model.specs.declared.kql.KTree.TheBlock.{shape-the_row-KTree-0, hidden-the_row-KTree-0, shape-the_row-KTree-2, hidden-the_row-KTree-2, shape-the_row-KOperand-1, hidden-the_row-KOperand-1}
use Rattle.sq_model.specs.Lists.{is_empty}
use Rattle.sq_model.specs.Access.{admits}
use Rattle.sq_model.specs.Passages.{Passage}
use Rattle.sq_model.specs.Kql.{triples, compares, holds, boost}

-- what unfolds where a tree is built from lists
unfoldable lists : Unit {0}
unfolding shape-the_row-KTree-0 hidden-the_row-KTree-0 shape-the_row-KTree-2 hidden-the_row-KTree-2 shape-the_row-KOperand-1 hidden-the_row-KOperand-1
    denote.Hole.Carrier.hidden
lists = tt

-- ---- texts of lower-case words with a blank between each two

abbrev words_after : List ℕ → List ℕ → List (List ℕ)
words_after word [] = word ∷ []
words_after word (b ∷ bs) = if b == 32 then word ∷ words_after [] bs else words_after (word ++ b ∷ []) bs

abbrev placed : ℕ → List (List ℕ) → List Token
placed at [] = []
placed at (word ∷ rest) = record { text = word; from = at; to = at + length word } ∷ placed (at + length word + 1) rest

abbrev pub passage : List ℕ → Passage
passage text = placed 0 (words_after [] text)

-- ---- expressions

abbrev pub leaf : List ℕ → Leaf
leaf text = record { text = text; pattern = record { texts = words_after [] text; prefixed = false } }

abbrev free : List ℕ → KTree
free text = k.Free (leaf text)

abbrev title : List ℕ → KTree
title text = k.TextTest 0 Has (leaf text)

abbrev operand : Sign → KTree → KOperand
operand sign tree = record { sign = sign; tree = tree }

-- ---- matches in "merger of the old bank and the new bank"

abbrev pub merger : Passage
merger = passage (codes "merger of the old bank and the new bank")

abbrev matches : KTree → Bool
matches tree = not (is_empty (triples merger tree))

the_longer_operand_reaches : matches (k.Near (free (codes "merger")) (k.Or (free (codes "old bank") ∷ free (codes "bank") ∷ [])) 2 false) ≡ true
unfolding lists
the_longer_operand_reaches = refl

the_whole_interval_counts : matches (k.Near (k.Near (free (codes "merger")) (free (codes "old")) 4 false) (free (codes "new")) 4 false) ≡ false
unfolding lists
the_whole_interval_counts = refl

the_whole_interval_fits : matches (k.Near (k.Near (free (codes "merger")) (free (codes "old")) 5 false) (free (codes "new")) 5 false) ≡ true
unfolding lists
the_whole_interval_fits = refl

ordered_operands_share_no_token : matches (k.Near (free (codes "old bank")) (free (codes "bank")) 2 true) ≡ false
unfolding lists
ordered_operands_share_no_token = refl

ordered_reaches_the_next_bank : triples merger (k.Near (free (codes "old bank")) (free (codes "bank")) 3 true) ≡ record { first = 3; last = 8; weight = 3 } ∷ []
unfolding lists
ordered_reaches_the_next_bank = refl

unordered_operands_share_a_token : matches (k.Near (free (codes "old bank")) (free (codes "bank")) 0 false) ≡ true
unfolding lists
unordered_operands_share_a_token = refl

-- ---- numbers

unequal_holds_without_a_value : compares Unequal (pos 7) (pos 7) [] ≡ true
unequal_holds_without_a_value = refl

less_is_below_the_first : compares Less (pos 5) (pos 6) (pos 5 ∷ []) ≡ false
less_is_below_the_first = refl

one_value_of_several_in_a_range : compares Range (pos 5) (pos 6) (pos 9 ∷ pos 6 ∷ []) ≡ true
one_value_of_several_in_a_range = refl

-- ---- items with a title, a body and a size

abbrev row : List ℕ → kind.the_data → Bool → Property
row name kind searchable = record { name = name; kind = kind; searchable = searchable; multi = false; refinable = false }

abbrev pub schema : List Property
schema = row (codes "title") kind.Text true ∷ row (codes "body") kind.Text true ∷ row (codes "size") kind.Integer false ∷ []

abbrev pub values_of : List ℕ → List ℕ → ℤ → List Value
values_of heading body size =
    record { property = 0; content = Words heading } ∷ record { property = 1; content = Words body } ∷ record { property = 2; content = Number size } ∷ []

-- item 2: the title "debt notes", the body "acquisition of company debt", the size 7
module _ (heading body : List ℕ) (h : text_tokens heading ≡ passage (codes "debt notes")) (b : text_tokens body ≡ passage (codes "acquisition of company debt")) where
  abbrev two : List Value
  two = values_of heading body (pos 7)

  a_word_is_found : holds schema two joiner.All (free (codes "company")) ≡ true
  unfolding lists
  a_word_is_found = rw (h, b) refl

  a_phrase_stays_in_one_passage : holds schema two joiner.All (free (codes "notes acquisition")) ≡ false
  unfolding lists
  a_phrase_stays_in_one_passage = rw (h, b) refl

  onear_at_its_bound : holds schema two joiner.All (k.Near (free (codes "acquisition")) (free (codes "debt")) 2 true) ≡ true
  unfolding lists
  onear_at_its_bound = rw (h, b) refl

  onear_below_its_bound : holds schema two joiner.All (k.Near (free (codes "acquisition")) (free (codes "debt")) 1 true) ≡ false
  unfolding lists
  onear_below_its_bound = rw (h, b) refl

  equal_is_the_whole_value : holds schema two joiner.All (k.TextTest 0 Equal (leaf (codes "debt"))) ≡ false
  unfolding lists
  equal_is_the_whole_value = rw h refl

  restrictions_of_one_property_join_by_or : holds schema two joiner.All (k.Run (operand Plain (title (codes "debt")) ∷ operand Plain (title (codes "board")) ∷ [])) ≡ true
  unfolding lists
  restrictions_of_one_property_join_by_or = rw h refl

  plus_restrictions_all_hold : holds schema two joiner.All (k.Run (operand Plus (title (codes "debt")) ∷ operand Plus (title (codes "board")) ∷ [])) ≡ false
  unfolding lists
  plus_restrictions_all_hold = rw h refl

  a_group_is_no_restriction : holds schema two joiner.All (k.Run (operand Plain (title (codes "debt")) ∷ operand Plain (k.Group (title (codes "board"))) ∷ [])) ≡ false
  unfolding lists
  a_group_is_no_restriction = rw h refl

  a_run_of_minus_operands : holds schema two joiner.All (k.Run (operand Minus (free (codes "board")) ∷ operand Minus (k.ValueTest 2 Equal (pos 5) (pos 5)) ∷ [])) ≡ true
  unfolding lists
  a_run_of_minus_operands = rw (h, b) refl

  loose_operands_all_hold : holds schema two joiner.All (k.Run (operand Plain (free (codes "notes")) ∷ operand Plain (free (codes "board")) ∷ [])) ≡ false
  unfolding lists
  loose_operands_all_hold = rw (h, b) refl

  one_loose_operand_is_enough : holds schema two joiner.Any (k.Run (operand Plain (free (codes "notes")) ∷ operand Plain (free (codes "board")) ∷ [])) ≡ true
  unfolding lists
  one_loose_operand_is_enough = rw h refl

  a_restriction_is_not_loose : holds schema two joiner.Any (k.Run (operand Plain (free (codes "notes")) ∷ operand Plain (title (codes "board")) ∷ [])) ≡ false
  unfolding lists
  a_restriction_is_not_loose = rw h refl

  a_plus_operand_is_not_loose : holds schema two joiner.Any (k.Run (operand Plain (free (codes "notes")) ∷ operand Plus (free (codes "board")) ∷ [])) ≡ false
  unfolding lists
  a_plus_operand_is_not_loose = rw (h, b) refl

  xrank_adds_once : boost schema two joiner.All (k.Xrank (free (codes "debt")) (k.Or (free (codes "notes") ∷ free (codes "company") ∷ [])) (pos 5)) ≡ pos 5
  unfolding lists
  xrank_adds_once = rw h refl

  xrank_adds_nothing_where_the_rank_side_fails : boost schema two joiner.All (k.Xrank (free (codes "debt")) (free (codes "board")) (pos 5)) ≡ pos 0
  unfolding lists
  xrank_adds_nothing_where_the_rank_side_fails = rw (h, b) refl

-- ---- access

abbrev item_for : List (List ℕ) → List (List ℕ) → Item
item_for allow deny = record { number = 1; rank = pos 10; url = codes "http://s/1"; allow = allow; deny = deny; values = [] }

a_denied_claim_shuts_out : admits (codes "staff" ∷ codes "guest" ∷ []) (item_for (codes "staff" ∷ []) (codes "guest" ∷ [])) ≡ false
a_denied_claim_shuts_out = refl

nobody_without_a_list : admits (codes "staff" ∷ []) (item_for [] []) ≡ false
nobody_without_a_list = refl
