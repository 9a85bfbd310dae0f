-- What may stand in NEAR and ONEAR is sound, but for the number of its copies.
use Rattle.std.proofs.Common.{◌≡◌, ◌≢◌, ℕ, true, false, List, [], ◌∷◌, refl}
use Rattle.std.specs.Prelude.{Ok, Err, IfOk}
use Rattle.std.specs.List.{AllByRecursion}
use Rattle.std.proofs.lemmas.Bool.{le-leb}
use Rattle.sq_schema.specs.declared.property.Property.{Property}
use Rattle.sq_model.specs.Lists.{is_empty}
use Rattle.sq_model.specs.KqlSound.{LeafSound, LeavesSound}
use Rattle.sq_model.specs.declared.kql.KTree.{KTree}
use Rattle.sq_model.specs.declared.kql.KTree.TheVariants as tree
use Rattle.sq_base.specs.Outcome.{Outcome, refused, ◌>>◌}
use Rattle.sq_kql.specs.declared.raw.Piece.{Piece}
use Rattle.sq_kql.specs.declared.raw.KRaw.{KRaw, Free, All, Words, Group', Restrict, Near', Run', And', Or', Xrank', Row_of-KRaw, end_of-KRaw, more_of-KRaw}
use Rattle.sq_kql.specs.WellFormed.{IsPattern, HasForm, HaveForm, AreSome}
use Rattle.sq_typing.specs.Forms.{is_filled, ProximitySound}
use Rattle.sq_typing.specs.Together.{all_of}
use Rattle.sq_typing.specs.KqlValues.{leaf_of, relation_of, tested}
use Rattle.sq_typing.specs.Kql.{leaves_of, proximate, proximate_each}
use Rattle.sq_typing.proofs.LeafLemmas.{is_some}
use Rattle.sq_typing.proofs.SoundLemmas.{filled_of_sound, sound_or, sound_group, sound_near}
use Rattle.sq_typing.proofs.TogetherLemmas.{if_mapped, if_together, if_weaker}

-- there is one, and all are sound
abbrev AreSomeSound : List KTree → Type 0
AreSomeSound us = (is_empty us ≡ false) × AllByRecursion ProximitySound us

pub leaf_sound : (p : Piece) → IsPattern p → LeafSound (leaf_of p.text)
leaf_sound p form = record { pattern = refl; stars = form.0; tokens = is_some _ form.1 }

leaves_sound : (ps : List Piece) → AllByRecursion IsPattern ps → LeavesSound (leaves_of ps)
leaves_sound [] form = tt
leaves_sound (p ∷ ps) form = (leaf_sound p form.0, leaves_sound ps form.1)

some_leaves : (ps : List Piece) → (ps ≢ []) → is_empty (leaves_of ps) ≡ false
some_leaves [] some = absurd (some refl)
some_leaves (p ∷ ps) some = refl

pub words_sound : (ps : List Piece) → (ps ≢ []) → AllByRecursion IsPattern ps → (is_empty (leaves_of ps) ≡ false) × LeavesSound (leaves_of ps)
words_sound ps some form = (some_leaves ps some, leaves_sound ps form)

-- ---- the outcomes

pub if_misplaced : {A : Type 0} (x : Outcome A) (code at : ℕ) (P : KTree → Type 0) → IfOk (x >> refused code at) P
if_misplaced (Ok x) code at P = tt
if_misplaced (Err e) code at P = tt

module _ (schema : List Property) where
  mutual
    pub proximate_sound : (t : KRaw) → HasForm t → IfOk (proximate schema t) ProximitySound
    proximate_sound (Free p) form = leaf_sound p form
    proximate_sound (All at) form = tt
    proximate_sound (Words at ps) form = words_sound ps form.0 form.1
    proximate_sound (Group' at s (more_of-KRaw inside end_of-KRaw)) form =
        if_mapped tree.Group (proximate schema inside) ProximitySound ProximitySound (proximate_sound inside form.0) sound_group
    proximate_sound (Restrict at name r value upper) form = if_misplaced (tested schema at name (relation_of r)) _ at ProximitySound
    proximate_sound (Near' at s (more_of-KRaw left end_of-KRaw) t (more_of-KRaw right end_of-KRaw) n ordered) form =
        if_together (λ l r. tree.Near l r n ordered) (proximate schema left) (proximate schema right) ProximitySound ProximitySound ProximitySound
        (proximate_sound left form.0.0) (proximate_sound right form.1.0) (λ l r h k. sound_near l r n ordered h k (le-leb n 1_000 form.2))
    proximate_sound (Run' at s operands) form = tt
    proximate_sound (And' at s parts) form = tt
    proximate_sound (Or' at s parts) form =
        if_mapped tree.Or (all_of (proximate_each schema parts)) AreSomeSound ProximitySound (some_proximate parts form.0 form.1) (λ us h. sound_or us h.0 h.1)
    proximate_sound (Xrank' at s matched t ranked cb) form = tt

    some_proximate : {m : _} (row : Row_of-KRaw m) → AreSome row → HaveForm row → IfOk (all_of (proximate_each schema row)) AreSomeSound
    some_proximate end_of-KRaw some form = absurd some
    some_proximate (more_of-KRaw part rest) some form =
        if_together (λ x xs. x ∷ xs) (proximate schema part) (all_of (proximate_each schema rest)) ProximitySound (AllByRecursion ProximitySound)
        AreSomeSound (proximate_sound part form.0) (each_proximate rest form.1) (λ x xs h k. (refl, (h, k)))

    each_proximate : {m : _} (row : Row_of-KRaw m) → HaveForm row → IfOk (all_of (proximate_each schema row)) (AllByRecursion ProximitySound)
    each_proximate end_of-KRaw form = tt
    each_proximate (more_of-KRaw part rest) form =
        if_together (λ x xs. x ∷ xs) (proximate schema part) (all_of (proximate_each schema rest)) ProximitySound (AllByRecursion ProximitySound)
        (AllByRecursion ProximitySound) (proximate_sound part form.0) (each_proximate rest form.1) (λ x xs h k. (h, k))

  pub proximate_filled : (t : KRaw) → HasForm t → IfOk (proximate schema t) (λ u. is_filled u ≡ true)
  proximate_filled t form = if_weaker (proximate schema t) ProximitySound _ (proximate_sound t form) (λ u sound. filled_of_sound u sound)
