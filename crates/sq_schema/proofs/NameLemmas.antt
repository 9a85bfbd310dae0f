-- Rows and their names.
use Rattle.std.proofs.Common.{◌≡◌, ◌≢◌, refl, ap, ℕ, ◌+◌, ◌*◌, ◌%◌, ◌^◌, ◌<◌, ◌≤◌, List, [], ◌∷◌, length, take, get_or, map, Bool, true, false, Some, None, arith, sym, inl, inr, ◌∙◌}
use Rattle.std.proofs.lemmas.Bool.{cases_Bool, false≢true}
use Rattle.std.proofs.lemmas.Bool.Decides.{nat_tests}
use Rattle.std.proofs.lemmas.Cmp.{nat_list_eq_equiv}
use Rattle.std.proofs.lemmas.List.{get_or-map, get_or-take, length-take-le}
use Rattle.std.proofs.lemmas.List.Folds.{fold-map, list_any_at}
use Rattle.std.proofs.lemmas.List.Sums.{position_or_len_is}
use Rattle.std.proofs.lemmas.Option.{get_or_from_slice_get, slice_get_within}
use Rattle.std.specs.Char.{to_ascii_lowercase}
use Rattle.std.specs.Cmp.Lexicographic.{same_text}
use Rattle.std.specs.List.{fold, list_any, position_or_len}
use Rattle.std.specs.Prelude.{position, slice_get}
use Rattle.sq_schema.specs.declared.property.Property.{Property}
use Rattle.sq_schema.specs.Checksums.{AreChecksums, checksum, checksum_of_row, checksum_step}
use Rattle.sq_schema.specs.Properties.{IsSchema, has_name, fault_behind}
use Rattle.sq_schema.specs.Words.{is_same_word}

same_word : (name : List ℕ) → is_same_word name name ≡ true
unfolding is_same_word
same_word name = nat_list_eq_equiv.refl (map to_ascii_lowercase name)

has_own_name : (row : Property) → has_name row.name row ≡ true
unfolding has_name
has_own_name row = same_word row.name

not_taken : (earlier : List Property) (i : ℕ) (row : Property) → fault_behind earlier i row ≡ None → list_any (has_name row.name) earlier ≡ false
not_taken earlier i row h = grind (arith, nat_tests)

earlier_differs : {X : Type 0} (p : X → Bool) (xs : List X) (i k : ℕ) (d : X) → i ≤ length xs → k < i → list_any p (take i xs) ≡ false → p (get_or xs k d) ≡ false
earlier_differs p xs i k d within less none = elim (cases_Bool (p (get_or xs k d))) [
  | inl yes_here ↦ absurd (false≢true (sym none ∙ list_any_at p (take i xs) k d (omega (arith, length-take-le i xs within)) (rw (get_or-take i xs k d less) yes_here)))
  | inr other ↦ other
]

position_at : {X : Type 0} (p : X → Bool) (xs : List X) (i : ℕ) → i < length xs → position_or_len p xs ≡ i → position p xs ≡ Some i
position_at p xs i within e = grind (arith, nat_tests)

position_past : {X : Type 0} (p : X → Bool) (xs : List X) → position_or_len p xs ≡ length xs → position p xs ≡ None
position_past p xs e = grind (arith, nat_tests)

-- the first place that passes, and none
pub position_first : {X : Type 0} (p : X → Bool) (xs : List X) (i : ℕ) (d : X) → i < length xs → p (get_or xs i d) ≡ true → ((k : ℕ) → k < i → p (get_or xs k d) ≡ false) → position p xs ≡ Some i
position_first p xs i d within here before = position_at p xs i within (position_or_len_is p xs i d (omega arith) before (λ h. here))

pub position_none : {X : Type 0} (p : X → Bool) (xs : List X) → ((k : ℕ) (d : X) → k < length xs → p (get_or xs k d) ≡ false) → position p xs ≡ None
position_none p [] h = refl
position_none p (x ∷ xs) h = position_past p (x ∷ xs) (position_or_len_is p (x ∷ xs) (length (x ∷ xs)) x (omega arith) (λ k less. h k x less) (λ more. absurd (omega arith)))

same_checksum : (left right : List ℕ) → is_same_word left right ≡ true → checksum left ≡ checksum right
unfolding is_same_word checksum checksum_step
same_checksum left right h =
    let lower : map to_ascii_lowercase left ≡ map to_ascii_lowercase right = same_text _ _ (sym h) in
    sym (fold-map (λ sum byte. (sum * 31 + byte) % 2 ^ 32) to_ascii_lowercase 0 left)
    ∙ ap (λ bytes. fold (λ sum byte. (sum * 31 + byte) % 2 ^ 32) 0 bytes) lower
    ∙ fold-map (λ sum byte. (sum * 31 + byte) % 2 ^ 32) to_ascii_lowercase 0 right

-- a row with another checksum has another name
pub other_checksum : (name : List ℕ) (row : Property) → checksum row.name ≢ checksum name → has_name name row ≡ false
unfolding has_name
other_checksum name row other = elim (cases_Bool (is_same_word row.name name)) [
  | inl same ↦ absurd (other (same_checksum row.name name same))
  | inr differs ↦ differs
]

pub checksum_at : (rows : List Property) (sums : List ℕ) (i : ℕ) (d : Property) (e : ℕ) → i < length rows → AreChecksums sums rows → get_or sums i e ≡ checksum (get_or rows i d).name
checksum_at rows sums i d e within h = rw h (get_or-map checksum_of_row rows i d e within)

pub names_find_rows : (rows : List Property) (i : ℕ) (row : Property) → IsSchema rows → slice_get rows i ≡ Some row → position (has_name row.name) rows ≡ Some i
names_find_rows rows i row good here =
    let within = slice_get_within rows i row here in
    let faultless = rw here at (good.faultless i within) in
    let none = not_taken (take i rows) i row faultless in
    let at : has_name row.name (get_or rows i row) ≡ true = rw (get_or_from_slice_get rows i row row here) (has_own_name row) in
    position_first (has_name row.name) rows i row within at (λ k less. earlier_differs (has_name row.name) rows i k row (omega arith) less none)
