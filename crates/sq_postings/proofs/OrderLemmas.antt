-- The orders of tokens, claims and lengths.
use Rattle.std.proofs.Common.{◌≡◌, ◌⊎◌, inl, inr, ℕ, ◌<◌, Bool, true, false, ◌&&◌, ◌||◌, List, [], ◌∷◌, length, take, refl, sym, ap, ◌∙◌, subst, arith}
use Rattle.std.specs.Prelude.{nat_lt, nat_eq, ◌==◌}
use Rattle.std.proofs.lemmas.Bool.{or_cases}
use Rattle.std.proofs.lemmas.Bool.Decides.{nat_tests}
use Rattle.std.proofs.lemmas.Cmp.{nat_list_cmp_total, nat_cmp_total, tied_itself, ranked}
use Rattle.std.proofs.lemmas.Map.Text.{is_eq-slice_cmp}
use Rattle.std.proofs.lemmas.Slice.Eq.{bytes_eq-Decides}
use Rattle.std.specs.Ordering.{is_lt, is_eq, nat_cmp, ordering_then, MatchOrdering}
use Rattle.std.proofs.Common.{Ordering, Less, Equal, Greater}
use Rattle.std.specs.Cmp.Lexicographic.{slice_cmp, pointwise}
use Rattle.std.specs.Str.{bytes_eq}
use Rattle.sq_tokens.specs.Pattern.{is_token_asked}
use Rattle.sq_postings.specs.Rising.{text_before, token_before, term_before, claim_before, length_before}
use Rattle.sq_postings.specs.Searched.{comes_before, comes_up_to, fits_term, claim_comes_before, length_comes_before}
use Rattle.sq_postings.specs.declared.parts.Term.{Term}
use Rattle.sq_postings.specs.declared.parts.Claim.{Claim}
use Rattle.sq_postings.specs.declared.parts.Length.{Length}

-- ---- tests

pub and_left : (a b : Bool) → a && b ≡ true → a ≡ true
and_left true b e = refl
and_left false true e = e
and_left false false e = e

pub and_right : (a b : Bool) → a && b ≡ true → b ≡ true
and_right true b e = e
and_right false true e = refl
and_right false false e = e

pub or_left : (a b : Bool) → a ≡ true → a || b ≡ true
or_left a b e = rw e refl

pub or_right : (a b : Bool) → b ≡ true → a || b ≡ true
or_right true b e = refl
or_right false b e = e

pub not_both : (b : Bool) → b ≡ true → b ≡ false → ⊥
not_both b p q = let no : true ≡ false = sym p ∙ q in cc

-- ---- by a number, and then by a test

pub by_number : (p q : ℕ) (x : Bool) → nat_lt p q || ((p == q) && x) ≡ true → (p < q) ⊎ ((p ≡ q) × (x ≡ true))
by_number p q true e = at (nat_lt p q) refl
  where
    at : (b : Bool) → nat_lt p q ≡ b → (p < q) ⊎ ((p ≡ q) × (true ≡ true))
    at true f = inl (grind (arith, nat_tests))
    at false f = inr (grind (arith, nat_tests), refl)
by_number p q false e = inl (grind (arith, nat_tests))

pub by_less : (p q : ℕ) (x : Bool) → p < q → nat_lt p q || ((p == q) && x) ≡ true
by_less p q x l = grind (arith, nat_tests)

pub by_same : (p q : ℕ) (x : Bool) → p ≡ q → x ≡ true → nat_lt p q || ((p == q) && x) ≡ true
by_same p q x e f = grind (arith, nat_tests)

pub by_chain : (p q r : ℕ) (x y z : Bool) → (x ≡ true → y ≡ true → z ≡ true) → nat_lt p q || ((p == q) && x) ≡ true → nat_lt q r || ((q == r) && y) ≡ true → nat_lt p r || ((p == r) && z) ≡ true
by_chain p q r x y z chain f g = at (by_number p q x f) (by_number q r y g)
  where
    at : (p < q) ⊎ ((p ≡ q) × (x ≡ true)) → (q < r) ⊎ ((q ≡ r) × (y ≡ true)) → nat_lt p r || ((p == r) && z) ≡ true
    at (inl l) (inl m) = by_less p r z (omega (arith, l, m))
    at (inl l) (inr m) = by_less p r z (omega (arith, l, m.0))
    at (inr l) (inl m) = by_less p r z (omega (arith, l.0, m))
    at (inr l) (inr m) = by_same p r z (l.0 ∙ m.0) (chain l.1 m.1)

-- ---- texts

is_less : (o : Ordering) → is_lt o ≡ true → o ≡ Less
is_less Less e = refl
is_less Equal e = cc
is_less Greater e = cc

pub text_chain : (a b c : List ℕ) → text_before a b ≡ true → text_before b c ≡ true → text_before a c ≡ true
text_chain a b c p q = ap is_lt (nat_list_cmp_total.trans a b c (is_less (slice_cmp nat_cmp a b) p) (is_less (slice_cmp nat_cmp b c) q))

equal_isnt_less : (o : Ordering) → is_eq o ≡ true → is_lt o ≡ false
equal_isnt_less Less e = cc
equal_isnt_less Equal e = refl
equal_isnt_less Greater e = refl

pub equal_isnt_before : (a b : List ℕ) → bytes_eq a b ≡ true → text_before a b ≡ false
equal_isnt_before a b e = equal_isnt_less (slice_cmp nat_cmp a b) (is_eq-slice_cmp a b ∙ e)

pub same_text : (a b : List ℕ) → bytes_eq a b ≡ true → a ≡ b
same_text a b e = (bytes_eq-Decides a b).0 e

same_number : (m n : ℕ) → nat_eq m n ≡ true → m ≡ n
same_number m n e = grind (arith, nat_tests)

equal_to_itself : (n : ℕ) → nat_cmp n n ≡ Equal
equal_to_itself n = tied_itself nat_cmp_total n

-- a text that begins with the wanted one doesn't come before it
beginning_isnt_before : (w a : List ℕ) → pointwise nat_eq w (take (length w) a) ≡ true → text_before a w ≡ false
beginning_isnt_before [] [] e = refl
beginning_isnt_before [] (x ∷ a) e = refl
beginning_isnt_before (y ∷ w) [] e = cc
beginning_isnt_before (y ∷ w) (x ∷ a) e =
    let same : y ≡ x = same_number y x (and_left (nat_eq y x) _ e) in
    rw (same, equal_to_itself x) (beginning_isnt_before w a (and_right (nat_eq y x) (pointwise nat_eq w (take (length w) a)) e))

pub fitting_isnt_before : (prefixed : Bool) (w a : List ℕ) → is_token_asked prefixed w a ≡ true → text_before a w ≡ false
fitting_isnt_before true w a e = beginning_isnt_before w a e
fitting_isnt_before false w a e = equal_isnt_before a w e

-- a text before one that begins with the wanted one comes before the wanted one, or begins with it
before_beginning : (w a b : List ℕ) → text_before a b ≡ true → pointwise nat_eq w (take (length w) b) ≡ true → (text_before a w ≡ true) ⊎ (pointwise nat_eq w (take (length w) a) ≡ true)
before_beginning [] a b l e = inr refl
before_beginning (y ∷ w) a [] l e = cc
before_beginning (y ∷ w) [] (z ∷ b) l e = inl refl
before_beginning (y ∷ w) (x ∷ a) (z ∷ b) l e =
    let same : y ≡ z = same_number y z (and_left (nat_eq y z) _ e) in
    let rest : pointwise nat_eq w (take (length w) b) ≡ true = and_right (nat_eq y z) (pointwise nat_eq w (take (length w) b)) e in
    at (λ less. before_beginning w a b less rest) (nat_cmp x z) refl same l
  where
    equal : (m n : ℕ) → nat_cmp m n ≡ Equal → nat_eq n m ≡ true
    equal m n f = let same : m ≡ n = subst (λ o. MatchOrdering o (m < n) (m ≡ n) (n < m)) f (ranked m n (nat_cmp m n) refl) in grind (arith, nat_tests)

    at : (text_before a b ≡ true → (text_before a w ≡ true) ⊎ (pointwise nat_eq w (take (length w) a) ≡ true)) → (o : Ordering) → nat_cmp x z ≡ o → y ≡ z → is_lt (ordering_then o (slice_cmp nat_cmp a b)) ≡ true
        → (is_lt (ordering_then (nat_cmp x y) (slice_cmp nat_cmp a w)) ≡ true) ⊎ (nat_eq y x && pointwise nat_eq w (take (length w) a) ≡ true)
    at behind Less f same less = inl (rw (same, f) refl)
    at behind Equal f same less = elim (behind less) [
      | inl more ↦ inl (rw (same, f) more)
      | inr more ↦ inr (rw (same, equal x z f) more)
    ]
    at behind Greater f same less = cc

fitting_chain : (prefixed : Bool) (w a b : List ℕ) → text_before a b ≡ true → is_token_asked prefixed w b ≡ true → (text_before a w ≡ true) ⊎ (is_token_asked prefixed w a ≡ true)
fitting_chain true w a b l e = before_beginning w a b l e
fitting_chain false w a b l e = inl (subst (λ t. text_before a t ≡ true) (same_text b w e) l)

-- ---- terms

token_chain : (p q r : ℕ) (a b c : List ℕ) → token_before p a q b ≡ true → token_before q b r c ≡ true → token_before p a r c ≡ true
token_chain p q r a b c = by_chain p q r (text_before a b) (text_before b c) (text_before a c) (text_chain a b c)

pub term_chain : (a b c : Term) → term_before a b ≡ true → term_before b c ≡ true → term_before a c ≡ true
term_chain a b c = token_chain a.property b.property c.property a.token b.token c.token

-- a term before one that comes before a token comes before it
pub before_down : (property : ℕ) (token : List ℕ) (a b : Term) → term_before a b ≡ true → comes_before property token b ≡ true → comes_before property token a ≡ true
before_down property token a b = token_chain a.property b.property property a.token b.token token

fits_down : (property : ℕ) (w : List ℕ) (prefixed : Bool) (p q : ℕ) (a b : List ℕ) → token_before p a q b ≡ true → (q == property) && is_token_asked prefixed w b ≡ true
    → token_before p a property w || ((p == property) && is_token_asked prefixed w a) ≡ true
fits_down property w prefixed p q a b l e = at (by_number p q (text_before a b) l)
  where
    there : q ≡ property
    there = let f : (q == property) ≡ true = and_left (q == property) (is_token_asked prefixed w b) e in grind (arith, nat_tests)

    fit : is_token_asked prefixed w b ≡ true
    fit = and_right (q == property) (is_token_asked prefixed w b) e

    both : (p ≡ property) → is_token_asked prefixed w a ≡ true → (p == property) && is_token_asked prefixed w a ≡ true
    both f g = rw g (grind (arith, nat_tests))

    at : (p < q) ⊎ ((p ≡ q) × (text_before a b ≡ true)) → token_before p a property w || ((p == property) && is_token_asked prefixed w a) ≡ true
    at (inl less) = or_left (token_before p a property w) _ (by_less p property (text_before a w) (subst (λ n. p < n) there less))
    at (inr same) = elim (fitting_chain prefixed w a b same.1 fit) [
      | inl less ↦ or_left (token_before p a property w) _ (by_same p property (text_before a w) (same.0 ∙ there) less)
      | inr more ↦ or_right (token_before p a property w) _ (both (same.0 ∙ there) more)
    ]

-- so does one before a term that comes before a token or fits it
pub up_to_down : (property : ℕ) (w : List ℕ) (prefixed : Bool) (a b : Term) → term_before a b ≡ true → comes_up_to property w prefixed b ≡ true → comes_up_to property w prefixed a ≡ true
up_to_down property w prefixed a b l e = elim (or_cases (comes_before property w b) (fits_term property w prefixed b) e) [
  | inl less ↦ or_left (comes_before property w a) (fits_term property w prefixed a) (before_down property w a b l less)
  | inr fit ↦ fits_down property w prefixed a.property b.property a.token b.token l fit
]

-- what fits doesn't come before
pub fit_isnt_before : (property : ℕ) (w : List ℕ) (prefixed : Bool) (a : Term) → fits_term property w prefixed a ≡ true → comes_before property w a ≡ true → ⊥
fit_isnt_before property w prefixed a e l = at (by_number a.property property (text_before a.token w) l)
  where
    there : a.property ≡ property
    there = let f : (a.property == property) ≡ true = and_left (a.property == property) (is_token_asked prefixed w a.token) e in grind (arith, nat_tests)

    at : (a.property < property) ⊎ ((a.property ≡ property) × (text_before a.token w ≡ true)) → ⊥
    at (inl less) = omega (arith, less, there)
    at (inr same) = not_both (text_before a.token w) same.1 (fitting_isnt_before prefixed w a.token (and_right (a.property == property) (is_token_asked prefixed w a.token) e))

-- ---- claims

pub claim_chain : (a b c : Claim) → claim_before a b ≡ true → claim_before b c ≡ true → claim_before a c ≡ true
claim_chain a b c = text_chain a.claim b.claim c.claim

pub claim_down : (claim : List ℕ) (a b : Claim) → claim_before a b ≡ true → claim_comes_before claim b ≡ true → claim_comes_before claim a ≡ true
claim_down claim a b = text_chain a.claim b.claim claim

-- ---- lengths

pub length_chain : (a b c : Length) → length_before a b ≡ true → length_before b c ≡ true → length_before a c ≡ true
length_chain a b c = by_chain a.row b.row c.row (nat_lt a.ordinal b.ordinal) (nat_lt b.ordinal c.ordinal) (nat_lt a.ordinal c.ordinal) (λ p q. grind (arith, nat_tests))

pub length_down : (row ordinal : ℕ) (a b : Length) → length_before a b ≡ true → length_comes_before row ordinal b ≡ true → length_comes_before row ordinal a ≡ true
length_down row ordinal a b = by_chain a.row b.row row (nat_lt a.ordinal b.ordinal) (nat_lt b.ordinal ordinal) (nat_lt a.ordinal ordinal) (λ p q. grind (arith, nat_tests))
