-- What searches find.
use Rattle.std.proofs.Common.{◌≡◌, ◌≢◌, inl, inr, ℕ, zero, suc, ◌<◌, ◌≤◌, Bool, true, false, ◌&&◌, List, [], ◌∷◌, length, get_or, refl, sym, ap, ◌∙◌, subst, arith}
use Rattle.std.proofs.lemmas.Bool.{cases_lt, or_cases}
use Rattle.std.proofs.lemmas.List.{append-nil, get_or_default}
use Rattle.std.specs.List.{list_all}
use Rattle.std.specs.List.Sorted.{IsPartitionPoint}
use Rattle.std.specs.Prelude.{◌==◌}
use Rattle.std.specs.Str.{bytes_eq}
use Rattle.std.proofs.lemmas.Bool.Decides.{nat_tests}
use Rattle.sq_cursor.specs.Rows.{IsRising}
use Rattle.sq_postings.specs.Indexed.{rows_with, length_in}
use Rattle.sq_postings.specs.Kept.{are_claims, has_rising_rows}
use Rattle.sq_postings.specs.Rising.{rises, text_before, claim_before, length_before}
use Rattle.sq_postings.specs.Searched.{comes_before, comes_up_to, fits_term, claim_comes_before, length_comes_before, AreFound}
use Rattle.sq_postings.specs.declared.parts.Term.{Term}
use Rattle.sq_postings.specs.declared.parts.Claim.{Claim}
use Rattle.sq_postings.specs.declared.parts.Length.{Length}
use Rattle.sq_postings.proofs.OrderLemmas.{and_right, not_both, or_left, or_right, equal_isnt_before, same_text, fit_isnt_before, claim_chain, length_chain}
use Rattle.sq_postings.proofs.RisingLemmas.{rises_at, all_at, rising_rows}

is_false : (b : Bool) → (b ≡ true → ⊥) → b ≡ false
is_false true f = absurd (f refl)
is_false false f = refl

-- ---- terms

module _ (terms : List Term) (property : ℕ) (wanted : List ℕ) (prefixed : Bool) (start end : ℕ)
    (start_in : start ≤ length terms) (end_in : end ≤ length terms)
    (begins : IsPartitionPoint (λ term. comes_before property wanted term ≡ true) (λ term. comes_before property wanted term ≡ false) terms start)
    (ends : IsPartitionPoint (λ term. comes_up_to property wanted prefixed term ≡ true) (λ term. comes_up_to property wanted prefixed term ≡ false) terms end) where
  fits_there : (i : ℕ) (d : Term) → start ≤ i → i < end → fits_term property wanted prefixed (get_or terms i d) ≡ true
  fits_there i d l m =
      let t = get_or terms i d in
      let not_lower : comes_before property wanted t ≡ false = begins.1 i d l (omega (arith, m, end_in)) in
      elim (or_cases (comes_before property wanted t) (fits_term property wanted prefixed t) (ends.0 i d (omega arith) m)) [
        | inl lower ↦ absurd (not_both (comes_before property wanted t) lower not_lower)
        | inr fit ↦ fit
      ]

  is_there : (i : ℕ) (d : Term) → i < length terms → fits_term property wanted prefixed (get_or terms i d) ≡ true → (start ≤ i) × (i < end)
  is_there i d l fit =
      let t = get_or terms i d in
      let low : start ≤ i = elim (cases_lt i start) [
        | inl less ↦ absurd (fit_isnt_before property wanted prefixed t fit (begins.0 i d (omega arith) less))
        | inr past ↦ past
      ] in
      let high : i < end = elim (cases_lt i end) [
        | inl less ↦ less
        | inr past ↦ absurd (not_both (comes_up_to property wanted prefixed t) (or_right (comes_before property wanted t) (fits_term property wanted prefixed t) fit) (ends.1 i d past l))
      ] in
      (low, high)

  in_order : (d : Term) → start ≤ end
  in_order d = elim (cases_lt end start) [
    | inl less ↦ (let t = get_or terms end d in
        absurd (not_both (comes_up_to property wanted prefixed t)
        (or_left (comes_before property wanted t) (fits_term property wanted prefixed t) (begins.0 end d (omega arith) less)) (ends.1 end d (omega arith) (omega (arith, less, start_in)))))
    | inr past ↦ past
  ]

  pub found : AreFound terms property wanted prefixed start end
  found = record {
    ordered = in_order (record { property = 0; token = []; list = 0 });
    within = end_in;
    inside = fits_there;
    outside = is_there;
  }

-- ---- claims

rows_with_none : (claim : List ℕ) (claims : List Claim) → ((k : ℕ) (d : Claim) → k < length claims → bytes_eq (get_or claims k d).claim claim ≡ false) → rows_with claim claims ≡ []
rows_with_none claim [] none = refl
rows_with_none claim (c ∷ claims) none = rw (none 0 c (omega arith)) (rows_with_none claim claims (λ k d l. none (suc k) d (omega (arith, l))))

rows_with_one : (claim : List ℕ) (claims : List Claim) (at : ℕ) (e : Claim) → at < length claims → bytes_eq (get_or claims at e).claim claim ≡ true
    → ((k : ℕ) (d : Claim) → k < length claims → k ≢ at → bytes_eq (get_or claims k d).claim claim ≡ false) → rows_with claim claims ≡ (get_or claims at e).rows
rows_with_one claim [] at e l same others = absurd (omega (arith, l))
rows_with_one claim (c ∷ claims) zero e l same others =
    rw (same, rows_with_none claim claims (λ k d m. others (suc k) d (omega (arith, m)) (omega arith))) (append-nil c.rows)
rows_with_one claim (c ∷ claims) (suc at) e l same others =
    rw (others 0 c (omega arith) (omega arith)) (rows_with_one claim claims at e (omega (arith, l)) same (λ k d m n. others (suc k) d (omega (arith, m)) (λ same. n (omega (arith, same)))))

module _ (claims : List Claim) (claim : List ℕ) (at : ℕ) (up : rises claim_before claims ≡ true)
    (point : IsPartitionPoint (λ entry. claim_comes_before claim entry ≡ true) (λ entry. claim_comes_before claim entry ≡ false) claims at) where
  lower_differs : (k : ℕ) (d : Claim) → k < at → bytes_eq (get_or claims k d).claim claim ≡ false
  lower_differs k d l = is_false (bytes_eq (get_or claims k d).claim claim) (λ same.
      not_both (claim_comes_before claim (get_or claims k d)) (point.0 k d (omega arith) l) (equal_isnt_before (get_or claims k d).claim claim same))

  higher_differs : (k : ℕ) (d : Claim) → at < k → k < length claims → bytes_eq (get_or claims k d).claim claim ≡ false
  higher_differs k d l m = is_false (bytes_eq (get_or claims k d).claim claim) (λ same.
      let before : text_before (get_or claims at d).claim (get_or claims k d).claim ≡ true = rises_at claim_before claim_chain claims at k d up l m in
      not_both (claim_comes_before claim (get_or claims at d)) (subst (λ t. text_before (get_or claims at d).claim t ≡ true) (same_text (get_or claims k d).claim claim same) before)
      (point.1 at d (omega arith) (omega (arith, l, m))))

  pub claim_found : (e : Claim) → e ≡ get_or claims at e → at < length claims → bytes_eq e.claim claim ≡ true → e.rows ≡ rows_with claim claims
  claim_found e is l same = ap (λ (c : Claim). c.rows) is
      ∙ sym (rows_with_one claim claims at e l (subst (λ (c : Claim). bytes_eq c.claim claim ≡ true) is same) (λ k d m n. elim (cases_lt k at) [
        | inl less ↦ lower_differs k d less
        | inr past ↦ higher_differs k d (let other : at < k = omega (arith, past, n) in other) m
      ]))

  pub claim_other : (e : Claim) → e ≡ get_or claims at e → at < length claims → bytes_eq e.claim claim ≡ false → [] ≡ rows_with claim claims
  claim_other e is l differs = sym (rows_with_none claim claims (λ k d m. elim (cases_lt k at) [
    | inl less ↦ lower_differs k d less
    | inr past ↦ elim (cases_lt at k) [
      | inl more ↦ higher_differs k d more m
      | inr back ↦ (let here : k ≡ at = omega (arith, past, back) in
          ap (λ (c : Claim). bytes_eq c.claim claim) (ap (λ n. get_or claims n d) here ∙ get_or_default claims at d e l ∙ sym is) ∙ differs)
    ]
  ]))

  pub claim_past : length claims ≤ at → [] ≡ rows_with claim claims
  claim_past l = sym (rows_with_none claim claims (λ k d m. lower_differs k d (omega (arith, l, m))))

pub claim_rises : (claims : List Claim) (at : ℕ) (e : Claim) → are_claims claims ≡ true → e ≡ get_or claims at e → at < length claims → IsRising e.rows
claim_rises claims at e kept is l = subst (λ (c : Claim). IsRising c.rows) (sym is) (rising_rows (get_or claims at e).rows (all_at has_rising_rows claims at e (and_right (rises claim_before claims) (list_all has_rising_rows claims) kept) l))

-- ---- lengths

abbrev pub is_entry : ℕ → ℕ → Length → Bool
is_entry row ordinal entry = (entry.row == row) && (entry.ordinal == ordinal)

length_in_none : (table : List Length) (row ordinal : ℕ) → ((k : ℕ) (d : Length) → k < length table → is_entry row ordinal (get_or table k d) ≡ false) → length_in table row ordinal ≡ 0
length_in_none [] row ordinal none = refl
length_in_none (entry ∷ table) row ordinal none = rw (none 0 entry (omega arith)) (length_in_none table row ordinal (λ k d l. none (suc k) d (omega (arith, l))))

length_in_one : (table : List Length) (row ordinal at : ℕ) (e : Length) → at < length table → is_entry row ordinal (get_or table at e) ≡ true
    → ((k : ℕ) (d : Length) → k < at → is_entry row ordinal (get_or table k d) ≡ false) → length_in table row ordinal ≡ (get_or table at e).tokens
length_in_one [] row ordinal at e l here earlier = absurd (omega (arith, l))
length_in_one (entry ∷ table) row ordinal zero e l here earlier = rw here refl
length_in_one (entry ∷ table) row ordinal (suc at) e l here earlier =
    rw (earlier 0 entry (omega arith)) (length_in_one table row ordinal at e (omega (arith, l)) here (λ k d m. earlier (suc k) d (omega (arith, m))))

pub entry_is : (row ordinal : ℕ) (e : Length) → e.row ≡ row → e.ordinal ≡ ordinal → is_entry row ordinal e ≡ true
entry_is row ordinal e r o = grind (arith, nat_tests)

pub entry_isnt_row : (row ordinal : ℕ) (e : Length) → e.row ≢ row → is_entry row ordinal e ≡ false
entry_isnt_row row ordinal e r = grind (arith, nat_tests)

pub entry_isnt_ordinal : (row ordinal : ℕ) (e : Length) → e.ordinal ≢ ordinal → is_entry row ordinal e ≡ false
entry_isnt_ordinal row ordinal e o = grind (arith, nat_tests)

entry_isnt_before : (row ordinal : ℕ) (e : Length) → is_entry row ordinal e ≡ true → length_comes_before row ordinal e ≡ false
entry_isnt_before row ordinal e same = grind (arith, nat_tests)

-- an entry behind one that isn't lower is none
entry_isnt_behind : (row ordinal : ℕ) (a b : Length) → length_before a b ≡ true → length_comes_before row ordinal a ≡ false → is_entry row ordinal b ≡ false
entry_isnt_behind row ordinal a b l higher = is_false (is_entry row ordinal b) (λ same. not_both (length_comes_before row ordinal a) (moved same) higher)
  where
    moved : is_entry row ordinal b ≡ true → length_comes_before row ordinal a ≡ true
    moved same =
        let r : b.row ≡ row = grind (arith, nat_tests) in
        let o : b.ordinal ≡ ordinal = grind (arith, nat_tests) in
        rw (sym r, sym o) l

module _ (table : List Length) (row ordinal at : ℕ) (up : rises length_before table ≡ true)
    (point : IsPartitionPoint (λ entry. length_comes_before row ordinal entry ≡ true) (λ entry. length_comes_before row ordinal entry ≡ false) table at) where
  lower_isnt : (k : ℕ) (d : Length) → k < at → is_entry row ordinal (get_or table k d) ≡ false
  lower_isnt k d l = is_false (is_entry row ordinal (get_or table k d)) (λ same.
      not_both (length_comes_before row ordinal (get_or table k d)) (point.0 k d (omega arith) l) (entry_isnt_before row ordinal (get_or table k d) same))

  pub length_found : (e : Length) → at < length table → is_entry row ordinal (get_or table at e) ≡ true → (get_or table at e).tokens ≡ length_in table row ordinal
  length_found e l here = sym (length_in_one table row ordinal at e l here lower_isnt)

  pub length_other : (e : Length) → at < length table → is_entry row ordinal (get_or table at e) ≡ false → 0 ≡ length_in table row ordinal
  length_other e l differs = sym (length_in_none table row ordinal (λ k d m. elim (cases_lt k at) [
    | inl less ↦ lower_isnt k d less
    | inr past ↦ elim (cases_lt at k) [
      | inl more ↦ entry_isnt_behind row ordinal (get_or table at d) (get_or table k d) (rises_at length_before length_chain table at k d up more m) (point.1 at d (omega arith) l)
      | inr back ↦ (let here : k ≡ at = omega (arith, past, back) in
          ap (is_entry row ordinal) (ap (λ n. get_or table n d) here ∙ get_or_default table at d e l) ∙ differs)
    ]
  ]))

  pub length_past : length table ≤ at → 0 ≡ length_in table row ordinal
  length_past l = sym (length_in_none table row ordinal (λ k d m. lower_isnt k d (omega (arith, l, m))))
