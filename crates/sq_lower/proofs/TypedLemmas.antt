-- Typing a lowered tree gives its form.
use Rattle.std.proofs.Common.{◌≡◌, false, List, [], ◌∷◌, refl, ap, ◌∙◌}
use Rattle.std.specs.Prelude.{Ok, nat_le}
use Rattle.sq_schema.specs.declared.property.Property.{Property}
use Rattle.sq_schema.specs.Laws.{NamesFindRows, NumbersReadBack, MomentsReadBack, MomentsAreWritten}
use Rattle.sq_schema.specs.Properties.{IsSchema}
use Rattle.sq_model.specs.KqlSound.{PartsSound, SomeSound, EachSound, SomeOperandsSound, EachOperandSound}
use Rattle.sq_model.specs.Lists.{is_empty}
use Rattle.sq_model.specs.declared.kql.Joiner.{Joiner}
use Rattle.sq_model.specs.declared.kql.KTree.{KTree, Free, All, Words, Group', TextTest, ValueTest, Near', Run', And', Or', Xrank', Row_of-KTree, end_of-KTree, more_of-KTree, Row_of-KOperand, end_of-KOperand, more_of-KOperand}
use Rattle.sq_model.specs.declared.fql.Look.TheVariants.{Searchable}
use Rattle.sq_typing.specs.Fql.{fql_typed}
use Rattle.sq_lower.specs.Lowered.{lowered, lowered_each, forms}
use Rattle.sq_lower.proofs.CopiesLemmas.{each_of_some, copies_kept}
use Rattle.sq_lower.proofs.Form.{spans, form, form_each, operand_forms}
use Rattle.sq_lower.proofs.JoinedLemmas.{IsTyped, AreTyped, and_typed, or_typed, xrank_typed}
use Rattle.sq_lower.proofs.ProximityLemmas.{and_left, and_right, near_typed, proximity_given}
use Rattle.sq_lower.proofs.RunLemmas.{AreForms, run_typed}
use Rattle.sq_lower.proofs.TestLemmas.{phrase_typed, words_typed, text_test_typed, value_test_typed}

module _ (find : NamesFindRows) (numbers : NumbersReadBack) (dates : MomentsReadBack) (written : MomentsAreWritten) (schema : List Property) (good : IsSchema schema) (joiner : Joiner) where
  some_forms : {m : _} (row : Row_of-KTree m) → SomeSound schema row → is_empty (form_each schema joiner row) ≡ false
  some_forms end_of-KTree sound = absurd sound
  some_forms (more_of-KTree part rest) sound = refl

  some_operands : {m : _} (row : Row_of-KOperand m) → SomeOperandsSound schema row → is_empty (operand_forms schema joiner row) ≡ false
  some_operands end_of-KOperand sound = absurd sound
  some_operands (more_of-KOperand sign part rest) sound = refl

  each_operand : {m : _} (row : Row_of-KOperand m) → SomeOperandsSound schema row → EachOperandSound schema row
  each_operand end_of-KOperand sound = absurd sound
  each_operand (more_of-KOperand sign part rest) sound = sound

  mutual
    tree_typed : (k : KTree) → PartsSound schema k → IsTyped schema (lowered schema joiner k) (form schema joiner k)
    tree_typed (Free leaf) sound = phrase_typed schema leaf sound
    tree_typed All sound = refl
    tree_typed (Words leaves) sound = words_typed schema leaves sound.0 sound.1
    tree_typed (Group' p (more_of-KTree inside end_of-KTree)) sound = tree_typed inside sound.0
    tree_typed (TextTest property r leaf) sound = text_test_typed find numbers dates written schema good property r leaf sound.0 sound.1 sound.2
    tree_typed (ValueTest property r first last) sound = value_test_typed find numbers dates written schema good property r first last sound
    tree_typed (Near' p (more_of-KTree left end_of-KTree) q (more_of-KTree right end_of-KTree) n ordered) sound =
        near_typed schema n ordered (lowered schema joiner left ∷ lowered schema joiner right ∷ []) (spans left ∷ spans right ∷ []) refl (
          proximity_given schema Searchable joiner left (and_left _ _ (and_left _ _ sound.2)) sound.0.0,
          (proximity_given schema Searchable joiner right (and_left _ _ (and_right _ _ sound.2)) sound.1.0, tt),
        )
        (ap (λ n. nat_le n 256) (copies_kept schema (Near' p (more_of-KTree left end_of-KTree) q (more_of-KTree right end_of-KTree) n ordered) sound) ∙ sound.4)
    tree_typed (Run' shape operands) sound =
        run_typed schema joiner (forms schema joiner operands) (operand_forms schema joiner operands) (operands_typed operands (each_operand operands sound)) (some_operands operands sound)
    tree_typed (And' shape parts) sound = and_typed schema (lowered_each schema joiner parts) (form_each schema joiner parts) (each_typed parts (each_of_some schema parts sound)) (some_forms parts sound)
    tree_typed (Or' shape parts) sound = or_typed schema (lowered_each schema joiner parts) (form_each schema joiner parts) (each_typed parts (each_of_some schema parts sound)) (some_forms parts sound)
    tree_typed (Xrank' p (more_of-KTree matched end_of-KTree) q ranked cb) sound =
        xrank_typed schema cb (lowered schema joiner matched) (form schema joiner matched) (lowered_each schema joiner ranked) (form_each schema joiner ranked) (tree_typed matched sound.0.0)
        (each_typed ranked (each_of_some schema ranked sound.1)) (some_forms ranked sound.1)

    each_typed : {m : _} (row : Row_of-KTree m) → EachSound schema row → AreTyped schema (lowered_each schema joiner row) (form_each schema joiner row)
    each_typed end_of-KTree sound = tt
    each_typed (more_of-KTree part rest) sound = (tree_typed part sound.0, each_typed rest sound.1)

    operands_typed : {m : _} (row : Row_of-KOperand m) → EachOperandSound schema row → AreForms schema (forms schema joiner row) (operand_forms schema joiner row)
    operands_typed end_of-KOperand sound = tt
    operands_typed (more_of-KOperand sign part rest) sound = (record { sign = refl; role = refl; form = tree_typed part sound.0 }, operands_typed rest sound.1)

pub lowered_typed : NamesFindRows → NumbersReadBack → MomentsReadBack → MomentsAreWritten → (schema : List Property) (joiner : Joiner) (k : KTree) → IsSchema schema → PartsSound schema k →
    fql_typed schema (lowered schema joiner k) ≡ Ok (form schema joiner k)
lowered_typed find numbers dates written schema joiner k good sound = tree_typed find numbers dates written schema good joiner k sound
