-- Texts without white space at their ends are kept as they stand.
use Rattle.std.proofs.Common.{◌≡◌, ℕ, ◌<◌, Bool, true, false, not, List, [], ◌∷◌, ◌++◌, reverse, chars, IsUtf8, Option, Some, Ok, refl, sym, ◌∙◌, ap, subst, append-nil, arith}
use Rattle.std.proofs.lemmas.Bool.{not-true}
use Rattle.std.proofs.lemmas.Bool.Decides.{nat_tests}
use Rattle.std.proofs.lemmas.List.{reverse-append, reverse-reverse}
use Rattle.std.proofs.lemmas.Str.{encode_ascii, encodes-append, encodes-chars}
use Rattle.std.specs.Char.{encode_utf8}
use Rattle.std.specs.Str.{encode_utf8_all as encoded}
use mathlib.Core.List.{reverse-cons}
use Rattle.sq_base.specs.Outcome.{or_refused}
use Rattle.sq_packet.specs.declared.mark.Mark.{Mark}
use Rattle.sq_packet.specs.Marks.{place, is_blank, skip_blanks}
use Rattle.sq_packet.specs.Texts.{bytes_of, trimmed}
use Rattle.sq_packet.specs.Refiners.{last_of}
use Rattle.sq_packet.specs.Packet.{of_kind}
use Rattle.sq_packet_writer.proofs.GivenLemmas.{letters_of}
use Rattle.sq_packet_writer.proofs.TagLemmas.{if_false}

-- no white space at the front
abbrev pub is_bare : List ℕ → Bool
is_bare [] = true
is_bare (c ∷ cs) = not (is_blank c)

skip_bare : (ms : List Mark) → is_bare (letters_of ms) ≡ true → skip_blanks ms ≡ ms
skip_bare [] h = refl
skip_bare (m ∷ ms) h = if_false (is_blank m.c) (skip_blanks ms) (m ∷ ms) (not-true (is_blank m.c) h)

trimmed_bare : (ms : List Mark) → is_bare (letters_of ms) ≡ true → is_bare (letters_of (reverse ms)) ≡ true → trimmed ms ≡ ms
trimmed_bare ms front back =
    ap (λ (x : List Mark). reverse (skip_blanks (reverse x))) (skip_bare ms front) ∙ (ap reverse (skip_bare (reverse ms) back) ∙ reverse-reverse ms)

letters_append : (xs ys : List Mark) → letters_of (xs ++ ys) ≡ letters_of xs ++ letters_of ys
letters_append [] ys = refl
letters_append (x ∷ xs) ys = ap (λ (t : List ℕ). x.c ∷ t) (letters_append xs ys)

letters_reverse : (ms : List Mark) → letters_of (reverse ms) ≡ reverse (letters_of ms)
letters_reverse [] = refl
letters_reverse (m ∷ ms) =
    ap letters_of (reverse-cons m ms)
    ∙ (letters_append (reverse ms) (m ∷ []) ∙ (ap (λ (t : List ℕ). t ++ m.c ∷ []) (letters_reverse ms) ∙ sym (reverse-cons m.c (letters_of ms))))

-- ---- bytes and characters

no_blank : (c : ℕ) (rest : List ℕ) (b : Bool) → is_blank c ≡ b → is_bare (encode_utf8 c ++ rest) ≡ true → b ≡ false
no_blank c rest false is h = refl
no_blank c rest true is h =
    let low : c < 128 = grind (arith, nat_tests) in
    let bare : not (is_blank c) ≡ true = rw (encode_ascii c low) at h in
    let other = not-true (is_blank c) bare in
    cc

not_blank : (c : ℕ) (rest : List ℕ) → is_bare (encode_utf8 c ++ rest) ≡ true → not (is_blank c) ≡ true
not_blank c rest h = ap not (no_blank c rest (is_blank c) refl h)

bare_chars : (cs : List ℕ) → is_bare (encoded cs) ≡ true → is_bare cs ≡ true
bare_chars [] h = refl
bare_chars (c ∷ cs) h = not_blank c (encoded cs) h

-- a list by its last element
record Ends (xs : List ℕ) (last : ℕ) : Type 0 where
  front : List ℕ
  is : xs ≡ front ++ last ∷ []

ends_of : (c : ℕ) (cs : List ℕ) → Ends (c ∷ cs) (last_of c cs)
ends_of c [] = record { front = []; is = refl }
ends_of c (d ∷ ds) = let more = ends_of d ds in record { front = c ∷ more.front; is = ap (λ (t : List ℕ). c ∷ t) more.is }

reversed : (front : List ℕ) (last : ℕ) → reverse (front ++ last ∷ []) ≡ last ∷ reverse front
reversed front last = reverse-append front (last ∷ [])

pub last_bare : (c : ℕ) (cs : List ℕ) → not (is_blank (last_of c cs)) ≡ true → is_bare (reverse (c ∷ cs)) ≡ true
last_bare c cs h = let e = ends_of c cs in ap is_bare (ap reverse e.is ∙ reversed e.front (last_of c cs)) ∙ h

one_reversed : (c : ℕ) → is_blank c ≡ true → reverse (encode_utf8 c) ≡ encode_utf8 c
one_reversed c h = let low : c < 128 = grind (arith, nat_tests) in rw (encode_ascii c low) refl

last_by : (front : List ℕ) (c : ℕ) (b : Bool) → is_blank c ≡ b → is_bare (reverse (encoded (front ++ c ∷ []))) ≡ true → not (is_blank c) ≡ true
last_by front c false is h = ap not is
last_by front c true is h =
    let text : encoded (front ++ c ∷ []) ≡ encoded front ++ encode_utf8 c = encodes-append front (c ∷ []) ∙ ap (λ (t : List ℕ). encoded front ++ t) (append-nil (encode_utf8 c)) in
    let turned : reverse (encoded (front ++ c ∷ [])) ≡ encode_utf8 c ++ reverse (encoded front) =
    ap reverse text ∙ (reverse-append (encoded front) (encode_utf8 c) ∙ ap (λ (t : List ℕ). t ++ reverse (encoded front)) (one_reversed c is)) in
    not_blank c (reverse (encoded front)) (ap is_bare (sym turned) ∙ h)

back_chars : (cs : List ℕ) → is_bare (reverse (encoded cs)) ≡ true → is_bare (reverse cs) ≡ true
back_chars [] h = refl
back_chars (c ∷ cs) h =
    let e = ends_of c cs in
    last_bare c cs (last_by e.front (last_of c cs) (is_blank (last_of c cs)) refl (subst (λ (t : List ℕ). is_bare (reverse (encoded t)) ≡ true) e.is h))

-- ---- texts

trimmed_is : (text : List ℕ) (words : List Mark) → letters_of words ≡ chars text → IsUtf8 text → is_bare text ≡ true → is_bare (reverse text) ≡ true
    → bytes_of (trimmed words) ≡ text
trimmed_is text words are utf8 front back =
    let whole : encoded (letters_of words) ≡ text = ap encoded are ∙ encodes-chars text utf8 in
    let first = bare_chars (letters_of words) (ap is_bare whole ∙ front) in
    let last = back_chars (letters_of words) (ap (λ (t : List ℕ). is_bare (reverse t)) whole ∙ back) in
    ap bytes_of (trimmed_bare words first (ap is_bare (letters_reverse words) ∙ last)) ∙ whole

-- a text of its kind is read as what it says
pub kind_reads : {A : Type 0} (code at : ℕ) (text : List ℕ) (words : List Mark) (read : List ℕ → Option A) (x : A) → letters_of words ≡ chars text → IsUtf8 text
    → is_bare text ≡ true → is_bare (reverse text) ≡ true → read text ≡ Some x → of_kind code at words read ≡ Ok x
kind_reads code at text words read x are utf8 front back is =
    ap (λ (o : Option _). or_refused o code (place at (trimmed words))) (ap read (trimmed_is text words are utf8 front back) ∙ is)
