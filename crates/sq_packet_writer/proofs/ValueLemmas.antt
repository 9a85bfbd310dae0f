-- Written numbers and refiners are read.
use Rattle.std.proofs.Common.{◌≡◌, ℕ, suc, ◌<◌, ◌≤◌, ◌^◌, nat_lt, nat_le, ◌==◌, Bool, true, not, ◌&&◌, List, [], ◌∷◌, ◌++◌, length, map, flat_map, Some, None, Ok, ℤ, pos, negsuc, FitsSigned, w64, All, refl, ◌∙◌, ap, rules, append-nil, arith}
use Rattle.std.proofs.lemmas.Bool.{and_from, and_parts, not-true, le-leb}
use Rattle.std.proofs.lemmas.Bool.Decides.{nat_tests}
use Rattle.std.proofs.lemmas.Fmt.{decimal_nonempty, digits_decimal, digits_value-decimal, length-decimal-le}
use Rattle.std.proofs.lemmas.Int.{ints}
use Rattle.std.proofs.lemmas.List.Elements.{All-tail}
use Rattle.std.proofs.lemmas.List.Folds.{list_all-append}
use Rattle.std.proofs.lemmas.List.Splits.{slice_split-cons_yes, slice_split-cons_no}
use Rattle.std.proofs.lemmas.Str.Parse.{IsNumeralModel, numerals_by_value}
use Rattle.std.specs.Prelude.{codes}
use Rattle.std.specs.Char.{is_ascii_digit}
use Rattle.std.specs.Fmt.{decimal, signed_decimal}
use Rattle.std.specs.List.{list_all, slice_split, onto_first}
use Rattle.std.specs.Str.Parse.{digits_value}
use Rattle.sq_schema.specs.Laws.{NumbersReadBack}
use Rattle.sq_schema.specs.Values.{number_of}
use Rattle.sq_packet.specs.declared.request.RefinerSpec.{RefinerSpec}
use Rattle.sq_packet.specs.Asked.{HasBuckets}
use Rattle.sq_packet.specs.Words.{whole_of}
use Rattle.sq_packet.specs.Refiners.{refiner, has_no_parentheses, is_refiner_name, last_of, is_blank, are_rising, numbers_of, with_bounds, is_manual, discretized, closed_list, refiner_parts, refiner_of}
use Rattle.sq_packet_writer.specs.PacketText.{bound_text, bounds_text}
use Rattle.sq_packet_writer.specs.Writable.{IsWritableRefiner}
use Rattle.sq_packet_writer.proofs.LetterLemmas.{is_plain}
use Rattle.sq_packet_writer.proofs.TagLemmas.{if_true}

-- ---- whole numbers

digits_are : IsNumeralModel (λ ds. list_all is_ascii_digit ds ≡ true) (digits_value 10)
digits_are = numerals_by_value _ (search rules)

pub decimal_digits : (n : ℕ) → n < 2 ^ 64 → list_all is_ascii_digit (decimal n) ≡ true
decimal_digits n small = digits_decimal digits_are n small

whole_is : (text : List ℕ) (n : ℕ) → 0 < length text → length text ≤ 10 → list_all is_ascii_digit text ≡ true → digits_value 10 text ≡ n → n < 2 ^ 32 → whole_of text ≡ Some n
whole_is text n some few digits value small =
    let test : (nat_le 1 (length text) && nat_le (length text) 10 && list_all is_ascii_digit text && nat_lt (digits_value 10 text) (2 ^ 32)) ≡ true = grind (arith, nat_tests) in
    if_true (nat_le 1 (length text) && nat_le (length text) 10 && list_all is_ascii_digit text && nat_lt (digits_value 10 text) (2 ^ 32)) (Some (digits_value 10 text)) None test
    ∙ ap Some value

pub whole_back : (n : ℕ) → n ≤ 10_001 → whole_of (decimal n) ≡ Some n
whole_back n low =
    let wide : n < 2 ^ 64 = omega arith in
    whole_is (decimal n) n (decimal_nonempty n wide) (length-decimal-le 10 n (omega arith) (omega arith) wide) (decimal_digits n wide) (digits_value-decimal digits_are n wide) (omega arith)

-- ---- plain texts

-- what digits and a minus are
abbrev is_figure : ℕ → Bool
is_figure b = nat_lt 44 b && nat_lt b 58 && not (b == 47)

figure_digit : (b : ℕ) → is_ascii_digit b ≡ true → is_figure b ≡ true
figure_digit b h = grind (arith, nat_tests)

all_by : (p q : ℕ → Bool) (bs : List ℕ) → ((b : ℕ) → p b ≡ true → q b ≡ true) → list_all p bs ≡ true → list_all q bs ≡ true
all_by p q [] each h = refl
all_by p q (b ∷ bs) each h =
    let parts = and_parts (p b) (list_all p bs) h in
    and_from (q b) (list_all q bs) (each b parts.0) (all_by p q bs each parts.1)

figures_decimal : (n : ℕ) → n < 2 ^ 64 → list_all is_figure (decimal n) ≡ true
figures_decimal n small = all_by is_ascii_digit is_figure (decimal n) figure_digit (decimal_digits n small)

figures_signed : (n : ℤ) → FitsSigned w64 n → list_all is_figure (signed_decimal n) ≡ true
figures_signed (pos n) fits = figures_decimal n (omega (arith, ints))
figures_signed (negsuc n) fits = figures_decimal (suc n) (omega (arith, ints))

-- no byte is this one
abbrev is_free : ℕ → List ℕ → Bool
is_free d bs = list_all (λ b. not (b == d)) bs

figure_plain : (b : ℕ) → is_figure b ≡ true → is_plain b ≡ true
figure_plain b h = grind (arith, nat_tests)

pub decimal_plain : (n : ℕ) → n < 2 ^ 64 → list_all is_plain (decimal n) ≡ true
decimal_plain n small = all_by is_figure is_plain (decimal n) figure_plain (figures_decimal n small)

free_split : (b : ℕ) → is_figure b ≡ true → not (b == 47) ≡ true
free_split b h = grind (arith, nat_tests)

free_close : (b : ℕ) → is_figure b ≡ true → not (b == 41) ≡ true
free_close b h = grind (arith, nat_tests)

free_open : (b : ℕ) → is_figure b ≡ true → not (b == 40) ≡ true
free_open b h = grind (arith, nat_tests)

both_all : (p : ℕ → Bool) (xs ys : List ℕ) → list_all p xs ≡ true → list_all p ys ≡ true → list_all p (xs ++ ys) ≡ true
both_all p xs ys h k = list_all-append p xs ys ∙ and_from (list_all p xs) (list_all p ys) h k

-- what holds of `/` and of figures holds of all bounds
bounds_all : (p : ℕ → Bool) (bounds : List ℤ) → p 47 ≡ true → ((b : ℕ) → is_figure b ≡ true → p b ≡ true) → All (FitsSigned w64) bounds
    → list_all p (flat_map bound_text bounds) ≡ true
unfolding bound_text
bounds_all p [] slash figure fits = refl
bounds_all p (n ∷ ns) slash figure fits =
    and_from (p 47) (list_all p (signed_decimal n ++ flat_map bound_text ns)) slash
    (both_all p (signed_decimal n) (flat_map bound_text ns) (all_by is_figure p (signed_decimal n) figure (figures_signed n (fits 0 n (omega arith))))
    (bounds_all p ns slash figure (All-tail (FitsSigned w64) n ns fits)))

-- ---- cutting

cut_none : (d : ℕ) (xs : List ℕ) → is_free d xs ≡ true → slice_split (λ b. b == d) xs ≡ xs ∷ []
cut_none d [] h = refl
cut_none d (x ∷ xs) h =
    let parts = and_parts (not (x == d)) (is_free d xs) h in
    slice_split-cons_no (λ b. b == d) x xs (not-true (x == d) parts.0) ∙ ap (onto_first x) (cut_none d xs parts.1)

cut_at : (d : ℕ) (xs ys : List ℕ) → is_free d xs ≡ true → (d == d) ≡ true → slice_split (λ b. b == d) (xs ++ d ∷ ys) ≡ xs ∷ slice_split (λ b. b == d) ys
cut_at d [] ys h same = slice_split-cons_yes (λ b. b == d) d ys same
cut_at d (x ∷ xs) ys h same =
    let parts = and_parts (not (x == d)) (is_free d xs) h in
    slice_split-cons_no (λ b. b == d) x (xs ++ d ∷ ys) (not-true (x == d) parts.0) ∙ ap (onto_first x) (cut_at d xs ys parts.1 same)

cut_bounds : (word : List ℕ) (bounds : List ℤ) → is_free 47 word ≡ true → All (FitsSigned w64) bounds
    → slice_split (λ b. b == 47) (word ++ flat_map bound_text bounds) ≡ word ∷ map signed_decimal bounds
unfolding bound_text
cut_bounds word [] free fits = ap (slice_split (λ b. b == 47)) (append-nil word) ∙ cut_none 47 word free
cut_bounds word (n ∷ ns) free fits =
    cut_at 47 word (signed_decimal n ++ flat_map bound_text ns) free refl
    ∙ ap (λ (parts : List (List ℕ)). word ∷ parts)
    (cut_bounds (signed_decimal n) ns (all_by is_figure (λ b. not (b == 47)) (signed_decimal n) free_split (figures_signed n (fits 0 n (omega arith)))) (All-tail (FitsSigned w64) n ns fits))

numbers_back : NumbersReadBack → (bounds : List ℤ) → All (FitsSigned w64) bounds → numbers_of (map signed_decimal bounds) ≡ Some bounds
numbers_back back [] fits = refl
numbers_back back (n ∷ ns) fits =
    let one : number_of (signed_decimal n) ≡ Ok n = back n (fits 0 n (omega arith)) in
    let more = numbers_back back ns (All-tail (FitsSigned w64) n ns fits) in
    rw (one, more) refl

-- ---- refiners

no_open : (name : List ℕ) → has_no_parentheses name ≡ true → is_free 40 name ≡ true
no_open [] h = refl
no_open (b ∷ bs) h =
    let parts = and_parts (not (b == 40) && not (b == 41)) (has_no_parentheses bs) h in
    let here = and_parts (not (b == 40)) (not (b == 41)) parts.0 in
    and_from (not (b == 40)) (is_free 40 bs) here.0 (no_open bs parts.1)

name_free : (name : List ℕ) → is_refiner_name name ≡ true → is_free 40 name ≡ true
name_free [] h = absurd cc
name_free (b ∷ bs) h =
    let parts = and_parts (not (is_blank b) && not (is_blank (last_of b bs))) (has_no_parentheses (b ∷ bs)) h in
    no_open (b ∷ bs) parts.1

alone_back : (name : List ℕ) → is_refiner_name name ≡ true → refiner_of name ≡ Some (refiner name [])
unfolding refiner_of
alone_back name named =
    ap refiner_parts (cut_none 40 name (name_free name named))
    ∙ if_true (is_refiner_name name) (Some (refiner name [])) None named

with_is : (name : List ℕ) (bounds : List ℤ) → length bounds ≤ 64 → are_rising bounds ≡ true → with_bounds name (Some bounds) ≡ Some (refiner name bounds)
with_is name bounds few rising =
    if_true (nat_le (length bounds) 64 && are_rising bounds) (Some (refiner name bounds)) None
    (and_from (nat_le (length bounds) 64) (are_rising bounds) (le-leb (length bounds) 64 few) rising)

abbrev manual : List ℕ
manual = codes "discretize=manual"

discretized_back : NumbersReadBack → (name : List ℕ) (n : ℤ) (ns : List ℤ) → All (FitsSigned w64) (n ∷ ns) → length (n ∷ ns) ≤ 64 → are_rising (n ∷ ns) ≡ true
    → discretized name (manual ∷ map signed_decimal (n ∷ ns)) ≡ Some (refiner name (n ∷ ns))
unfolding is_manual
discretized_back back name n ns fits few rising =
    ap (with_bounds name) (numbers_back back (n ∷ ns) fits) ∙ with_is name (n ∷ ns) few rising

bounded_back : NumbersReadBack → (name : List ℕ) (n : ℤ) (ns : List ℤ) → is_refiner_name name ≡ true → All (FitsSigned w64) (n ∷ ns) → length (n ∷ ns) ≤ 64
    → are_rising (n ∷ ns) ≡ true → refiner_of (name ++ bounds_text (n ∷ ns)) ≡ Some (refiner name (n ∷ ns))
unfolding refiner_of
bounded_back back name n ns named fits few rising =
    let list = manual ++ flat_map bound_text (n ∷ ns) in
    let open_free = both_all (λ b. not (b == 40)) manual (flat_map bound_text (n ∷ ns)) refl (bounds_all (λ b. not (b == 40)) (n ∷ ns) refl free_open fits) in
    let close_free = both_all (λ b. not (b == 41)) manual (flat_map bound_text (n ∷ ns)) refl (bounds_all (λ b. not (b == 41)) (n ∷ ns) refl free_close fits) in
    let inside_free = both_all (λ b. not (b == 40)) list (codes ")") open_free refl in
    ap refiner_parts (cut_at 40 name (list ++ codes ")") (name_free name named) refl)
    ∙ (ap (λ (parts : List (List ℕ)). refiner_parts (name ∷ parts)) (cut_none 40 (list ++ codes ")") inside_free)
    ∙ (if_true (is_refiner_name name) (closed_list name (slice_split (λ b. b == 41) (list ++ codes ")"))) None named
    ∙ (ap (closed_list name) (cut_at 41 list [] close_free refl)
    ∙ (ap (discretized name) (cut_bounds manual (n ∷ ns) refl fits)
    ∙ discretized_back back name n ns fits few rising))))

back_by : NumbersReadBack → (name : List ℕ) (bounds : List ℤ) → is_refiner_name name ≡ true → All (FitsSigned w64) bounds → length bounds ≤ 64 → are_rising bounds ≡ true
    → refiner_of (name ++ bounds_text bounds) ≡ Some (refiner name bounds)
back_by back name [] named fits few rising = ap refiner_of (append-nil name) ∙ alone_back name named
back_by back name (n ∷ ns) named fits few rising = bounded_back back name n ns named fits few rising

pub refiner_back : NumbersReadBack → (r : RefinerSpec) → IsWritableRefiner r → HasBuckets r → refiner_of (r.name ++ bounds_text r.bounds) ≡ Some r
refiner_back back r h k = back_by back r.name r.bounds h.name h.bounds k.few k.rising

plain_slash : is_plain 47 ≡ true
plain_slash = refl

pub bounds_plain : (bounds : List ℤ) → All (FitsSigned w64) bounds → list_all is_plain (bounds_text bounds) ≡ true
bounds_plain [] fits = refl
bounds_plain (n ∷ ns) fits =
    both_all is_plain (codes "(discretize=manual" ++ flat_map bound_text (n ∷ ns)) (codes ")")
    (both_all is_plain (codes "(discretize=manual") (flat_map bound_text (n ∷ ns)) refl (bounds_all is_plain (n ∷ ns) plain_slash figure_plain fits)) refl
