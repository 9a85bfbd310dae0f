-- The terms of one property more stand behind those of the properties before it.
use Rattle.std.proofs.Common.{◌≡◌, ◌≢◌, inl, inr, ℕ, ◌+◌, ◌<◌, ◌≤◌, ◌==◌, ◌&&◌, ◌||◌, nat_lt, Bool, true, List, [], ◌∷◌, ◌++◌, length, get_or, refl, sym, ap, subst, ◌∙◌, arith, Option, Some, None}
use Rattle.std.specs.List.{All}
use Rattle.std.proofs.lemmas.Bool.{cases_lt}
use Rattle.std.proofs.lemmas.List.{get_or_append_left, get_or-append-add, length-append}
use Rattle.std.proofs.lemmas.List.Elements.{All-append, All-head, All-tail}
use Rattle.sq_coded.specs.declared.posting.Posting.{Posting}
use Rattle.sq_model.specs.declared.corpus.Item.{Item}
use Rattle.sq_postings.specs.declared.parts.Term.{Term}
use Rattle.sq_postings.specs.Kept.{is_term}
use Rattle.sq_postings.specs.Occurrences.{postings_of}
use Rattle.sq_postings.specs.Rising.{rises, term_before, text_before}
use Rattle.sq_build.specs.Dictionary.{HasPostings, property_of, HasTerm, AreTerms}
use Rattle.sq_build.specs.Gathered.{list_under, found, IsGathered}
use Rattle.sq_build.specs.Terms.{token_of, IsTermOf, HasToken}
use Rattle.sq_build.proofs.TestLemmas.{both_true, first_true, second_true, to_lt, from_lt}

-- ---- a list that rises behind another one

join_rises : {X : Type 0} (before : X → X → Bool) (P Q : X → Type 0) → ((x y : X) → P x → Q y → before x y ≡ true) → (xs ys : List X)
    → rises before xs ≡ true → rises before ys ≡ true → All P xs → All Q ys → rises before (xs ++ ys) ≡ true
join_rises before P Q across [] ys up later all others = later
join_rises before P Q across (x ∷ []) [] up later all others = refl
join_rises before P Q across (x ∷ []) (y ∷ ys) up later all others = both_true (before x y) _ (across x y (All-head P x [] all) (All-head Q y ys others)) later
join_rises before P Q across (x ∷ (z ∷ xs)) ys up later all others =
    both_true (before x z) _ (first_true (before x z) _ up)
    (join_rises before P Q across (z ∷ xs) ys (second_true (before x z) _ up) later (All-tail P x (z ∷ xs) all) others)

-- ---- one property more

module _ (items : List Item) (property : ℕ) (find : List ℕ → Option ℕ) (terms more : List Term) (lists longer : List (List Posting)) (held : AreTerms items property terms lists)
    (gathered : IsGathered find (length longer)) (postings : (t : List ℕ) → found find longer t ≡ postings_of items property t)
    (grows : length lists ≤ length longer) (stays : (i : ℕ) → i < length lists → get_or longer i [] ≡ get_or lists i [])
    (rise : rises term_before more ≡ true) (own : All (IsTermOf property find) more) (there : (t : List ℕ) (id : ℕ) → find t ≡ Some id → HasToken more t) where
  earlier : (x y : Term) → is_term property (length lists) x ≡ true → IsTermOf property find y → term_before x y ≡ true
  earlier x y p of =
      ap (λ b. b || ((x.property == y.property) && text_before x.token y.token))
      (ap (nat_lt x.property) of.property_is ∙ first_true (nat_lt x.property property) _ p)

  wider : (x : Term) → is_term property (length lists) x ≡ true → is_term (property + 1) (length longer) x ≡ true
  wider x p =
      let low = to_lt x.property property (first_true (nat_lt x.property property) _ p) in
      let in' = to_lt x.list (length lists) (second_true (nat_lt x.property property) _ p) in
      both_true (nat_lt x.property (property + 1)) _ (from_lt x.property (property + 1) (omega (arith, low))) (from_lt x.list (length longer) (omega (arith, in', grows)))

  newer : (x : Term) → IsTermOf property find x → is_term (property + 1) (length longer) x ≡ true
  newer x of =
      both_true (nat_lt x.property (property + 1)) _ (from_lt x.property (property + 1) (omega (arith, of.property_is)))
      (from_lt x.list (length longer) (gathered.below x.token x.list of.list_is))

  kept : All (HasPostings items longer) terms
  kept = λ k d l.
      stays (get_or terms k d).list (to_lt (get_or terms k d).list (length lists) (second_true (nat_lt (get_or terms k d).property property) _ (held.stand k d l)))
      ∙ held.postings k d l

  new : (x : Term) → IsTermOf property find x → HasPostings items longer x
  new x of = sym (ap (list_under longer) of.list_is) ∙ postings x.token ∙ ap (λ p. postings_of items p x.token) (sym of.property_is)

  found_there : (t : List ℕ) → postings_of items property t ≢ [] → (o : Option ℕ) → find t ≡ o → HasToken more t
  found_there t some None e = absurd (some (sym (postings t) ∙ ap (list_under longer) e))
  found_there t some (Some id) e = there t id e

  left : (p : ℕ) (t : List ℕ) → HasTerm terms p t → HasTerm (terms ++ more) p t
  left p t h = (
    h.0,
    omega (arith, h.1, length-append terms more),
    λ d. ap property_of (get_or_append_left terms more d h.0 h.1) ∙ h.2 d,
    λ d. ap token_of (get_or_append_left terms more d h.0 h.1) ∙ h.3 d,
  )

  right : (t : List ℕ) → HasToken more t → HasTerm (terms ++ more) property t
  right t h = (
    length terms + h.0,
    omega (arith, h.1, length-append terms more),
    λ d. ap property_of (get_or-append-add terms more h.0 d) ∙ (own h.0 d h.1).property_is,
    λ d. ap token_of (get_or-append-add terms more h.0 d) ∙ h.2 d,
  )

  pub one_more : AreTerms items (property + 1) (terms ++ more) longer
  one_more = record {
    rise = join_rises term_before (λ x. is_term property (length lists) x ≡ true) (IsTermOf property find) earlier terms more held.rise rise held.stand own;
    stand =
        All-append (λ x. is_term (property + 1) (length longer) x ≡ true) terms more
        (λ k d l. wider (get_or terms k d) (held.stand k d l)) (λ k d l. newer (get_or more k d) (own k d l));
    postings = All-append (HasPostings items longer) terms more kept (λ k d l. new (get_or more k d) (own k d l));
    whole = λ p t l some. elim (cases_lt p property) [
      | inl less ↦ left p t (held.whole p t less some)
      | inr same ↦ (let e : property ≡ p = omega (arith, l, same) in
          subst (λ q. HasTerm (terms ++ more) q t) e
          (right t (found_there t (subst (λ q. postings_of items q t ≢ []) (sym e) some) (find t) refl)))
    ];
  }

pub counted : (items : List Item) (property properties : ℕ) (terms : List Term) (lists : List (List Posting)) → property ≡ properties → AreTerms items property terms lists
    → AreTerms items properties terms lists
counted items property properties terms lists e held = subst (λ n. AreTerms items n terms lists) e held
