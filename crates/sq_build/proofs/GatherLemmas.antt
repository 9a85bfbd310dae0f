-- A text gets a list of its own, and a list grows.
use Rattle.std.proofs.Common.{◌≡◌, ◌≢◌, ℕ, ◌+◌, ◌<◌, Bool, true, false, cond, List, [], ◌∷◌, ◌++◌, length, get_or, refl, sym, ap, ◌∙◌, subst, arith, Option, Some, None, true≢false}
use Rattle.std.specs.Str.{bytes_eq}
use Rattle.std.proofs.Math.ListN.{set}
use Rattle.std.proofs.lemmas.Bool.Decides.{nat_tests}
use Rattle.std.proofs.lemmas.List.{append-nil, get_or_append_left, get_or_push, get_or-set_same, get_or-set_other, length-set, length_push}
use Rattle.std.proofs.lemmas.Option.{none-some, same_Some}
use Rattle.std.proofs.lemmas.Slice.Eq.{bytes_eq-Decides}
use Rattle.sq_coded.specs.declared.posting.Posting.{Posting}
use Rattle.sq_coded.specs.Coded.{comes_before, may_follow}
use Rattle.sq_coded.specs.Laws.{FollowsLast}
use Rattle.sq_build.specs.Gathered.{list_under, found, IsGathered, OthersStay}

same_text : (text other : List ℕ) → bytes_eq text other ≡ true → text ≡ other
same_text text other e = (bytes_eq-Decides text other).0 e

-- a new list, for a text that has none
module _ (find finds : List ℕ → Option ℕ) (text : List ℕ) (lists : List (List Posting)) (id : ℕ) (gathered : IsGathered find (length lists))
    (absent : find text ≡ None) (number : id ≡ length lists) (updates : (t : List ℕ) → finds t ≡ cond (bytes_eq text t) (Some id) (find t)) where
  below_at : (t : List ℕ) (other : ℕ) (b : Bool) → cond b (Some id) (find t) ≡ Some other → other < length lists + 1
  below_at t other true e = omega (arith, same_Some id other e, number)
  below_at t other false e = omega (arith, gathered.below t other e)

  one_at : (t u : List ℕ) (other : ℕ) (b c : Bool) → bytes_eq text t ≡ b → bytes_eq text u ≡ c
      → cond b (Some id) (find t) ≡ Some other → cond c (Some id) (find u) ≡ Some other → t ≡ u
  one_at t u other true true p q e f = sym (same_text text t p) ∙ same_text text u q
  one_at t u other true false p q e f = absurd (omega (arith, same_Some id other e, number, gathered.below u other f))
  one_at t u other false true p q e f = absurd (omega (arith, same_Some id other f, number, gathered.below t other e))
  one_at t u other false false p q e f = gathered.one t u other e f

  pub gathered_more : IsGathered finds (length (lists ++ [] ∷ []))
  gathered_more = record {
    below = λ t other e. subst (λ n. other < n) (sym (length_push lists [])) (below_at t other (bytes_eq text t) (sym (updates t) ∙ e));
    one = λ t u other e f. one_at t u other (bytes_eq text t) (bytes_eq text u) refl refl (sym (updates t) ∙ e) (sym (updates u) ∙ f);
  }

  pub number_more : finds text ≡ Some id
  number_more = updates text ∙ ap (λ b. cond b (Some id) (find text)) ((bytes_eq-Decides text text).1 refl)

  strange_at : (t : List ℕ) (i : ℕ) (b : Bool) → i < length lists → ((u : List ℕ) → find u ≢ Some i) → cond b (Some id) (find t) ≢ Some i
  strange_at t i true l none e = absurd (omega (arith, same_Some id i e, number, l))
  strange_at t i false l none e = none t e

  pub others_more : OthersStay find lists finds (lists ++ [] ∷ [])
  others_more = record {
    grows = omega (arith, length_push lists []);
    stays = λ i l none. (λ t e. strange_at t i (bytes_eq text t) l none (sym (updates t) ∙ e), get_or_append_left lists ([] ∷ []) [] i l);
  }

  same_at : (t : List ℕ) (b : Bool) → bytes_eq text t ≡ b → (o : Option ℕ) → find t ≡ o → list_under (lists ++ [] ∷ []) (cond b (Some id) o) ≡ list_under lists o
  same_at t true e o f =
      ap (λ i. get_or (lists ++ [] ∷ []) i []) number ∙ get_or_push lists [] [] (length lists) refl
      ∙ ap (list_under lists) (sym (ap find (sym (same_text text t e)) ∙ absent) ∙ f)
  same_at t false e None f = refl
  same_at t false e (Some other) f = get_or_append_left lists ([] ∷ []) [] other (gathered.below t other f)

  pub same_more : (t : List ℕ) → found finds (lists ++ [] ∷ []) t ≡ found find lists t
  same_more t = ap (list_under (lists ++ [] ∷ [])) (updates t) ∙ same_at t (bytes_eq text t) refl (find t) refl

-- one posting more under a text
module _ (find : List ℕ → Option ℕ) (text : List ℕ) (lists : List (List Posting)) (id : ℕ) (entry : Posting) (gathered : IsGathered find (length lists))
    (number : find text ≡ Some id) where
  added_at : (t : List ℕ) (b : Bool) → bytes_eq text t ≡ b → (o : Option ℕ) → find t ≡ o
      → list_under (set lists id (get_or lists id [] ++ entry ∷ [])) o ≡ list_under lists o ++ cond b (entry ∷ []) []
  added_at t true e o f =
      ap (list_under (set lists id (get_or lists id [] ++ entry ∷ []))) (here)
      ∙ get_or-set_same lists id (get_or lists id [] ++ entry ∷ []) [] (gathered.below text id number)
      ∙ ap (λ p. list_under lists p ++ entry ∷ []) (sym here)
    where
      here : o ≡ Some id
      here = sym f ∙ ap find (sym (same_text text t e)) ∙ number
  added_at t false e None f = refl
  added_at t false e (Some other) f =
      get_or-set_other lists id other (get_or lists id [] ++ entry ∷ []) [] apart ∙ sym (append-nil (get_or lists other []))
    where
      apart : other ≢ id
      apart same = true≢false (sym ((bytes_eq-Decides text t).1 (gathered.one text t id number (f ∙ ap (λ i. Some i) same))) ∙ e)

  pub added : (t : List ℕ) → found find (set lists id (get_or lists id [] ++ entry ∷ [])) t ≡ found find lists t ++ cond (bytes_eq text t) (entry ∷ []) []
  added t = added_at t (bytes_eq text t) refl (find t) refl

  pub others_added : OthersStay find lists find (set lists id (get_or lists id [] ++ entry ∷ []))
  others_added = record {
    grows = omega (arith, length-set lists id (get_or lists id [] ++ entry ∷ []));
    stays = λ i l none. (none, get_or-set_other lists id i (get_or lists id [] ++ entry ∷ []) [] (λ e. none text (number ∙ ap (λ j. Some j) (sym e))));
  }

pub others_refl : (find : List ℕ → Option ℕ) (lists : List (List Posting)) → OthersStay find lists find lists
others_refl find lists = record { grows = omega arith; stays = λ i l none. (none, refl) }

pub others_trans : (find finds last : List ℕ → Option ℕ) (lists longer longest : List (List Posting)) → OthersStay find lists finds longer → OthersStay finds longer last longest
    → OthersStay find lists last longest
others_trans find finds last lists longer longest first second = record {
  grows = omega (arith, first.grows, second.grows);
  stays = λ i l none.
      let one = first.stays i l none in
      let two = second.stays i (omega (arith, l, first.grows)) one.0 in
      (two.0, two.1 ∙ one.1);
}

-- what may follow a list may be followed by what comes later
chain_before : (a b c : Posting) → comes_before a b ≡ true → comes_before b c ≡ true → comes_before a c ≡ true
chain_before a b c p q = grind (arith, nat_tests)

pub follows_later : (entries : List Posting) (next later : Posting) → may_follow entries next ≡ true → comes_before next later ≡ true → may_follow entries later ≡ true
follows_later [] next later p q = refl
follows_later (e ∷ []) next later p q = chain_before e next later p q
follows_later (e ∷ (f ∷ entries)) next later p q = follows_later (f ∷ entries) next later p q

pub follows_added : FollowsLast → (entries : List Posting) (next later : Posting) (b : Bool) → may_follow entries next ≡ true → comes_before next later ≡ true
    → may_follow (entries ++ cond b (next ∷ []) []) later ≡ true
follows_added law entries next later true p q = law entries next later ∙ q
follows_added law entries next later false p q = subst (λ l. may_follow l later ≡ true) (sym (append-nil entries)) (follows_later entries next later p q)

pub place_before : (row ordinal place : ℕ) → comes_before (record { row = row; ordinal = ordinal; place = place }) (record { row = row; ordinal = ordinal; place = place + 1 }) ≡ true
place_before row ordinal place = grind (arith, nat_tests)

pub ordinal_before : (row ordinal place : ℕ) → comes_before (record { row = row; ordinal = ordinal; place = place }) (record { row = row; ordinal = ordinal + 1; place = 0 }) ≡ true
ordinal_before row ordinal place = grind (arith, nat_tests)

-- where no text has a list
pub none_gathered : (find : List ℕ → Option ℕ) (count : ℕ) → ((t : List ℕ) → find t ≡ None) → IsGathered find count
none_gathered find count none = record {
  below = λ t id e. absurd (none-some id (sym (none t) ∙ e));
  one = λ t other id e f. absurd (none-some id (sym (none t) ∙ e));
}
