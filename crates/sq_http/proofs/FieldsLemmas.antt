-- The members of a list between commas, and the fields of a name.
use Rattle.std.proofs.Common.{◌≡◌, ℕ, suc, ◌+◌, ◌<◌, ◌≤◌, Bool, true, false, List, [], ◌∷◌, length, take, drop, refl, sym, ap, ◌∙◌, arith}
use Rattle.std.specs.Prelude.{◌==◌, if◌then◌else◌, ◌||◌, codes}
use Rattle.std.specs.List.{list_any}
use Rattle.std.proofs.lemmas.List.{drop_all, drop_more}
use Rattle.httparse.specs.Grammar.{trim_ows}
use Rattle.sq_http.specs.Owed.{members, onto_first, closes_by, is_word}
use Rattle.sq_http.specs.Fields.{member_end}

-- the members behind the first one
abbrev pub behind_comma : List ℕ → List (List ℕ)
behind_comma [] = []
behind_comma (b ∷ bytes) = members bytes

module _ (b : ℕ) (bytes : List ℕ) (is : members bytes ≡ take (member_end bytes) bytes ∷ behind_comma (drop (member_end bytes) bytes)) where
  members_by : (t : Bool) → (if t then [] ∷ members bytes else onto_first b (members bytes))
      ≡ take (if t then 0 else suc (member_end bytes)) (b ∷ bytes) ∷ behind_comma (drop (if t then 0 else suc (member_end bytes)) (b ∷ bytes))
  members_by true = refl
  members_by false = ap (onto_first b) is

pub members_split : (bytes : List ℕ) → members bytes ≡ take (member_end bytes) bytes ∷ behind_comma (drop (member_end bytes) bytes)
members_split [] = refl
members_split (b ∷ bytes) = members_by b bytes (members_split bytes) (b == 44)

end_by : (n m : ℕ) (t : Bool) → n ≤ m → (if t then 0 else suc n) ≤ suc m
end_by n m true h = omega arith
end_by n m false h = omega (arith, h)

pub member_end-le : (bytes : List ℕ) → member_end bytes ≤ length bytes
member_end-le [] = omega arith
member_end-le (b ∷ bytes) = end_by (member_end bytes) (length bytes) (b == 44) (member_end-le bytes)

pub closes_split : (bytes : List ℕ) (n : ℕ) → n ≡ member_end bytes
    → closes_by bytes ≡ (is_word (codes "close") (trim_ows (take n bytes)) || list_any (λ member. is_word (codes "close") (trim_ows member)) (behind_comma (drop n bytes)))
closes_split bytes n is = ap (list_any (λ member. is_word (codes "close") (trim_ows member))) (members_split bytes)
    ∙ ap (λ k. is_word (codes "close") (trim_ows (take k bytes)) || list_any (λ member. is_word (codes "close") (trim_ows member)) (behind_comma (drop k bytes))) (sym is)

pub closes_here : (bytes : List ℕ) (n : ℕ) → n ≡ member_end bytes → is_word (codes "close") (trim_ows (take n bytes)) ≡ true → closes_by bytes ≡ true
closes_here bytes n is hit = closes_split bytes n is ∙ rw hit refl

pub closes_not : (bytes : List ℕ) (n : ℕ) → n ≡ member_end bytes → is_word (codes "close") (trim_ows (take n bytes)) ≡ false → n ≡ length bytes → closes_by bytes ≡ false
closes_not bytes n is miss all = closes_split bytes n is ∙ rw (miss, drop_all n bytes (omega (arith, all))) refl

pub closes_on : (bytes : List ℕ) (n : ℕ) → n ≡ member_end bytes → is_word (codes "close") (trim_ows (take n bytes)) ≡ false → n < length bytes → closes_by bytes ≡ closes_by (drop (n + 1) bytes)
closes_on bytes n is miss more = closes_split bytes n is ∙ rw (miss, drop_more bytes n 0 more) refl
