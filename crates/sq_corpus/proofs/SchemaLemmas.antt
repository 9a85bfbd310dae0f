-- Rows without a fault, where one more comes to them.
use Rattle.std.proofs.Common.{◌≡◌, inl, inr, ℕ, ◌<◌, true, false, List, [], ◌∷◌, ◌++◌, length, length-append, take, slice_get, Some, None, refl, sym, ap, subst, ◌∙◌, arith}
use Rattle.std.specs.List.{list_any}
use Rattle.std.specs.Prelude.{option_and_then}
use Rattle.std.proofs.Math.ListN.{get_or-append}
use Rattle.std.proofs.Math.Nat.{eq-or-lt_of_le}
use Rattle.std.proofs.Math.Seq.{take-append_seam, get_or-append_seam}
use Rattle.std.proofs.lemmas.List.{take-append-le}
use Rattle.std.proofs.lemmas.Option.{slice_get-get_or}
use Rattle.sq_schema.specs.declared.property.Property.{Property}
use Rattle.sq_schema.specs.Properties.{IsSchema, row_fault, fault_behind, is_sound, has_name}

kept_at : (rows : List Property) (row : Property) (i : ℕ) → i < length rows → row_fault (rows ++ row ∷ []) i ≡ row_fault rows i
kept_at rows row i within =
    let longer : i < length (rows ++ row ∷ []) = omega (arith, within, length-append rows (row ∷ [])) in
    ap (λ earlier. option_and_then (fault_behind earlier i) (slice_get (rows ++ row ∷ []) i)) (take-append-le i rows (row ∷ []) (omega (arith, within)))
    ∙ ap (λ at. option_and_then (fault_behind (take i rows) i) at)
    (slice_get-get_or (rows ++ row ∷ []) i row longer ∙ ap (λ r. Some r) (get_or-append rows (row ∷ []) row i within) ∙ sym (slice_get-get_or rows i row within))

good_behind : (earlier : List Property) (i : ℕ) (row : Property) → is_sound row ≡ true → list_any (has_name row.name) earlier ≡ false → fault_behind earlier i row ≡ None
good_behind earlier i row good free = rw (good, free) refl

good_last : (rows : List Property) (row : Property) → is_sound row ≡ true → list_any (has_name row.name) rows ≡ false → row_fault (rows ++ row ∷ []) (length rows) ≡ None
good_last rows row good free =
    let longer : length rows < length (rows ++ row ∷ []) = omega (arith, length-append rows (row ∷ [])) in
    ap (λ earlier. option_and_then (fault_behind earlier (length rows)) (slice_get (rows ++ row ∷ []) (length rows))) (take-append_seam rows (row ∷ []))
    ∙ ap (λ at. option_and_then (fault_behind rows (length rows)) at)
    (slice_get-get_or (rows ++ row ∷ []) (length rows) row longer ∙ ap (λ r. Some r) (get_or-append_seam rows row [] row))
    ∙ good_behind rows (length rows) row good free

-- one row more
pub sound_more : (rows : List Property) (row : Property) → IsSchema rows → is_sound row ≡ true → list_any (has_name row.name) rows ≡ false → length rows < 64
    → IsSchema (rows ++ row ∷ [])
sound_more rows row sound good free room = record {
  few = omega (arith, room, length-append rows (row ∷ []));
  faultless = λ i within. elim (eq-or-lt_of_le {n = i} {m = length rows} (omega (arith, within, length-append rows (row ∷ [])))) [
    | inl last ↦ subst (λ k. row_fault (rows ++ row ∷ []) k ≡ None) (sym last) (good_last rows row good free)
    | inr earlier ↦ kept_at rows row i earlier ∙ sound.faultless i earlier
  ];
}
