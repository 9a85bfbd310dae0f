-- Operators over lists whose elements are typed.
use Rattle.std.proofs.Common.{◌≡◌, true, false, List, [], ◌∷◌, ◌++◌, map, refl, ap, ap₂, ◌∙◌, ℤ}
use Rattle.std.specs.Prelude.{Ok}
use Rattle.std.proofs.lemmas.Bool.{true≢false}
use Rattle.sq_schema.specs.declared.property.Property.{Property}
use Rattle.sq_model.specs.Lists.{is_empty}
use Rattle.sq_model.specs.declared.fql.FTree.{FTree}
use Rattle.sq_model.specs.declared.fql.FTree.TheVariants as f
use Rattle.sq_base.specs.Outcome.{Outcome}
use Rattle.sq_fql.specs.declared.raw.FRaw.{FRaw}
use Rattle.sq_fql.specs.declared.raw.Op.{Op}
use Rattle.sq_fql.specs.declared.raw.Op.TheVariants as op
use Rattle.sq_typing.specs.Fql.{is_for_all, combined, combined_all, fql_typed}
use Rattle.sq_typing.specs.Together.{together, all_of}
use Rattle.sq_lower.specs.Lowered.{apply, negated}
use Rattle.sq_lower.specs.Runs.{alone_or}
use Rattle.sq_lower.proofs.RawEquations.{typed_for_all}

module _ {X Y : Type 0} (judge : X → Outcome Y) where
  -- each gives its own
  abbrev pub GiveEach : List X → List Y → Type 0
  GiveEach [] [] = Unit {0}
  GiveEach (x ∷ xs) (y ∷ ys) = (judge x ≡ Ok y) × GiveEach xs ys
  GiveEach _ _ = ⊥

  pub all_given : (xs : List X) (ys : List Y) → GiveEach xs ys → all_of (map judge xs) ≡ Ok ys
  all_given [] [] given = refl
  all_given (x ∷ xs) (y ∷ ys) given = ap₂ (together (λ z zs. z ∷ zs)) given.0 (all_given xs ys given.1)
  all_given [] (y ∷ ys) given = absurd given
  all_given (x ∷ xs) [] given = absurd given

  pub given_append : (xs : List X) (ys : List Y) (us : List X) (vs : List Y) → GiveEach xs ys → GiveEach us vs → GiveEach (xs ++ us) (ys ++ vs)
  given_append [] [] us vs given more = more
  given_append (x ∷ xs) (y ∷ ys) us vs given more = (given.0, given_append xs ys us vs given.1 more)
  given_append [] (y ∷ ys) us vs given more = absurd given
  given_append (x ∷ xs) [] us vs given more = absurd given

module _ (schema : List Property) where
  abbrev pub IsTyped : FRaw → FTree → Type 0
  IsTyped raw tree = fql_typed schema raw ≡ Ok tree

  abbrev pub AreTyped : List FRaw → List FTree → Type 0
  AreTyped raws trees = GiveEach (fql_typed schema) raws trees

  typed_as : (o : Op) (raws : List FRaw) (trees : List FTree) → is_for_all o ≡ true → AreTyped raws trees → fql_typed schema (apply o raws) ≡ combined o trees
  typed_as o raws trees for_all typed =
      typed_for_all schema _ 0 o raws for_all ∙ ap (combined_all o) (all_given (fql_typed schema) raws trees typed)

  pub and_typed : (raws : List FRaw) (trees : List FTree) → AreTyped raws trees → is_empty trees ≡ false → IsTyped (apply op.And raws) (f.And trees)
  and_typed raws [] typed some = absurd (true≢false some)
  and_typed raws (t ∷ ts) typed some = typed_as op.And raws (t ∷ ts) refl typed

  pub or_typed : (raws : List FRaw) (trees : List FTree) → AreTyped raws trees → is_empty trees ≡ false → IsTyped (apply op.Or raws) (f.Or trees)
  or_typed raws [] typed some = absurd (true≢false some)
  or_typed raws (t ∷ ts) typed some = typed_as op.Or raws (t ∷ ts) refl typed

  pub not_typed : (r : FRaw) (t : FTree) → IsTyped r t → IsTyped (negated r) (f.Not t)
  not_typed r t typed = typed_as op.Not (r ∷ []) (t ∷ []) refl (typed, tt)

  pub and_not_typed : (r : FRaw) (t : FTree) (raws : List FRaw) (trees : List FTree) → IsTyped r t → AreTyped raws trees → is_empty trees ≡ false →
      IsTyped (apply op.AndNot (r ∷ raws)) (f.AndNot t trees)
  and_not_typed r t raws [] first typed some = absurd (true≢false some)
  and_not_typed r t raws (u ∷ us) first typed some = typed_as op.AndNot (r ∷ raws) (t ∷ u ∷ us) refl (first, typed)

  pub xrank_typed : (cb : ℤ) (r : FRaw) (t : FTree) (raws : List FRaw) (trees : List FTree) → IsTyped r t → AreTyped raws trees → is_empty trees ≡ false →
      IsTyped (apply (op.Xrank cb) (r ∷ raws)) (f.Xrank t trees cb)
  xrank_typed cb r t raws [] first typed some = absurd (true≢false some)
  xrank_typed cb r t raws (u ∷ us) first typed some = typed_as (op.Xrank cb) (r ∷ raws) (t ∷ u ∷ us) refl (first, typed)

  -- one tree stands for itself, and several are joined
  pub alone_typed : (raw_join : List FRaw → FRaw) (join : List FTree → FTree) →
      ((raws : List FRaw) (trees : List FTree) → AreTyped raws trees → is_empty trees ≡ false → IsTyped (raw_join raws) (join trees)) →
      (raws : List FRaw) (trees : List FTree) → AreTyped raws trees → is_empty trees ≡ false → IsTyped (alone_or raw_join raws) (alone_or join trees)
  alone_typed raw_join join joined [] [] typed some = absurd (true≢false some)
  alone_typed raw_join join joined (r ∷ []) (t ∷ []) typed some = typed.0
  alone_typed raw_join join joined (r ∷ (s ∷ raws)) (t ∷ (u ∷ trees)) typed some = joined (r ∷ s ∷ raws) (t ∷ u ∷ trees) typed refl
  alone_typed raw_join join joined [] (t ∷ trees) typed some = absurd typed
  alone_typed raw_join join joined (r ∷ raws) [] typed some = absurd typed
  alone_typed raw_join join joined (r ∷ []) (t ∷ (u ∷ trees)) typed some = absurd typed.1
  alone_typed raw_join join joined (r ∷ (s ∷ raws)) (t ∷ []) typed some = absurd typed.1
