-- A proximity expression that is sound but for its copies is sound where these are at most 256.
use Rattle.std.proofs.Common.{◌≡◌, ℕ, ◌≤◌, Bool, true, false, not, List, refl, ap, subst, sym, ◌∙◌, arith}
use Rattle.std.specs.Prelude.{nat_le}
use Rattle.std.specs.List.{AllByRecursion}
use Rattle.std.proofs.lemmas.Bool.{le-leb}
use Rattle.sq_schema.specs.declared.property.Property.{Property}
use Rattle.sq_model.specs.KqlCopies.{copies, copies_each}
use Rattle.sq_model.specs.Copies.{greatest}
use Rattle.sq_model.specs.KqlSound.{PartsSound, SomeSound, EachSound, is_proximity, are_proximity}
use Rattle.sq_model.specs.Lists.{is_empty}
use Rattle.sq_model.specs.declared.kql.KTree.{KTree, Free, Words, Group, Near, Or, Group', Near', Or', Row_of-KTree, end_of-KTree, more_of-KTree, items-the_row-KTree, items_hidden-the_row-KTree-2}
use Rattle.sq_model.specs.declared.kql.KTree.TheBlock.{shape-the_row-KTree-0, hidden-the_row-KTree-0, hidden-the_row-KTree-2}
use Rattle.sq_typing.specs.Forms.{is_filled, are_filled, each_filled, ProximitySound, SomeProximitySound, EachProximitySound}
use Rattle.sq_typing.proofs.CopiesLemmas.{both_true, near_bounds, has_weight}

mutual
  pub filled_of_sound : (tree : KTree) → ProximitySound tree → is_filled tree ≡ true
  filled_of_sound (Free leaf) sound = refl
  filled_of_sound (Words leaves) sound = ap (λ b. not b) sound.0
  filled_of_sound (Group' s inside) sound = some_filled inside sound
  filled_of_sound (Or' shape parts) sound = some_filled parts sound
  filled_of_sound (Near' s left t right n ordered) sound = both_true _ _ (some_filled left sound.0) (some_filled right sound.1)
  filled_of_sound _ sound = absurd sound

  some_filled : {m : _} (row : Row_of-KTree m) → SomeProximitySound row → are_filled row ≡ true
  some_filled end_of-KTree sound = absurd sound
  some_filled (more_of-KTree part rest) sound = both_true _ _ (filled_of_sound part sound.0) (filled_each rest sound.1)

  filled_each : {m : _} (row : Row_of-KTree m) → EachProximitySound row → each_filled row ≡ true
  filled_each end_of-KTree sound = refl
  filled_each (more_of-KTree part rest) sound = both_true _ _ (filled_of_sound part sound.0) (filled_each rest sound.1)

mutual
  pub proximity_of_sound : (tree : KTree) → ProximitySound tree → is_proximity tree ≡ true
  proximity_of_sound (Free leaf) sound = refl
  proximity_of_sound (Words leaves) sound = refl
  proximity_of_sound (Group' s inside) sound = some_proximity inside sound
  proximity_of_sound (Or' shape parts) sound = some_proximity parts sound
  proximity_of_sound (Near' s left t right n ordered) sound = both_true _ _ (some_proximity left sound.0) (some_proximity right sound.1)
  proximity_of_sound _ sound = absurd sound

  some_proximity : {m : _} (row : Row_of-KTree m) → SomeProximitySound row → are_proximity row ≡ true
  some_proximity end_of-KTree sound = absurd sound
  some_proximity (more_of-KTree part rest) sound = both_true _ _ (proximity_of_sound part sound.0) (proximity_each rest sound.1)

  proximity_each : {m : _} (row : Row_of-KTree m) → EachProximitySound row → are_proximity row ≡ true
  proximity_each end_of-KTree sound = refl
  proximity_each (more_of-KTree part rest) sound = both_true _ _ (proximity_of_sound part sound.0) (proximity_each rest sound.1)

module _ (schema : List Property) where
  mutual
    -- the copies of a near bound those of every near in it
    pub sound_of_few : (tree : KTree) → ProximitySound tree → copies tree ≤ 256 → PartsSound schema tree
    sound_of_few (Free leaf) sound few = sound
    sound_of_few (Words leaves) sound few = sound
    sound_of_few (Group' s inside) sound few = some_of_few inside sound few
    sound_of_few (Or' shape parts) sound few = some_of_few parts sound few
    sound_of_few (Near' s (more_of-KTree left end_of-KTree) t (more_of-KTree right end_of-KTree) n ordered) sound few =
        let bounds = near_bounds _ _ (copies left) (copies right) (has_weight left (filled_of_sound left sound.0.0)) (has_weight right (filled_of_sound right sound.1.0)) in (
          (sound_of_few left sound.0.0 (omega arith), tt),
          (sound_of_few right sound.1.0 (omega arith), tt),
          proximity_of_sound (Near' s (more_of-KTree left end_of-KTree) t (more_of-KTree right end_of-KTree) n ordered) sound,
          sound.2,
          le-leb (copies (Near' s (more_of-KTree left end_of-KTree) t (more_of-KTree right end_of-KTree) n ordered)) 256 few,
        )
    sound_of_few _ sound few = absurd sound

    some_of_few : {m : _} (row : Row_of-KTree m) → SomeProximitySound row → greatest (copies_each row) ≤ 256 → SomeSound schema row
    some_of_few end_of-KTree sound few = absurd sound
    some_of_few (more_of-KTree part rest) sound few = (sound_of_few part sound.0 (omega arith), each_of_few rest sound.1 (omega arith))

    each_of_few : {m : _} (row : Row_of-KTree m) → EachProximitySound row → greatest (copies_each row) ≤ 256 → EachSound schema row
    each_of_few end_of-KTree sound few = tt
    each_of_few (more_of-KTree part rest) sound few = (sound_of_few part sound.0 (omega arith), each_of_few rest sound.1 (omega arith))

-- ---- by lists, as code builds expressions

each_of_items : {m : _} (row : Row_of-KTree m) → AllByRecursion ProximitySound (items-the_row-KTree m row) → EachProximitySound row
each_of_items end_of-KTree sound = tt
each_of_items (more_of-KTree part rest) sound = (sound.0, each_of_items rest sound.1)

some_of_items : {m : _} (row : Row_of-KTree m) → is_empty (items-the_row-KTree m row) ≡ false → AllByRecursion ProximitySound (items-the_row-KTree m row) → SomeProximitySound row
some_of_items end_of-KTree some sound = cc
some_of_items (more_of-KTree part rest) some sound = (sound.0, each_of_items rest sound.1)

pub sound_or : (parts : List KTree) → is_empty parts ≡ false → AllByRecursion ProximitySound parts → ProximitySound (Or parts)
sound_or parts some sound =
    let items = items_hidden-the_row-KTree-2 parts in
    some_of_items (hidden-the_row-KTree-2 parts) (ap is_empty items ∙ some) (subst (AllByRecursion ProximitySound) (sym items) sound)

pub sound_group : (inside : KTree) → ProximitySound inside → ProximitySound (Group inside)
unfolding shape-the_row-KTree-0 hidden-the_row-KTree-0 denote.Hole.Carrier.hidden
sound_group inside sound = (sound, tt)

pub sound_near : (left right : KTree) (n : ℕ) (ordered : Bool) → ProximitySound left → ProximitySound right → nat_le n 1_000 ≡ true → ProximitySound (Near left right n ordered)
unfolding shape-the_row-KTree-0 hidden-the_row-KTree-0 denote.Hole.Carrier.hidden
sound_near left right n ordered left_sound right_sound within = ((left_sound, tt), (right_sound, tt), within)
