-- Each fault of a packet lies in it, and each request that is read may be asked.
use Rattle.std.proofs.Common.{◌≡◌, ℕ, zero, suc, ◌+◌, ◌≤◌, ◌==◌, Bool, true, false, if◌then◌else◌, List, [], ◌∷◌, length, drop, reverse, Option, Some, None, Ok, Err, refl, subst, arith, length-append}
use Rattle.std.specs.Prelude.{codes}
use Rattle.std.specs.Char.{encode_utf8}
use Rattle.std.specs.Str.{encode_utf8_all as encoded}
use mathlib.Core.List.{reverse_aux}
use Rattle.sq_base.specs.Outcome.{Outcome, or_refused, ◌>>=◌}
use Rattle.sq_base.specs.Xml.{is_xml_char}
use Rattle.sq_packet.specs.declared.mark.Mark.{Mark}
use Rattle.sq_packet.specs.declared.mark.Class.{Class}
use Rattle.sq_packet.specs.declared.mark.Class.TheVariants as class
use Rattle.sq_packet.specs.Marks.{marks_from, place, begins, expected, is_blank, skip_blanks, comment, declaration, is_in, begins_name, run, whole_name, name}
use Rattle.sq_packet.specs.Texts.{Taken, numeral, base_of, with_rest, numeric, reference, character, next_character, onto_text, text_by, text_until, text_to, trimmed}

-- a fault that lies in the packet, or a value of this kind
abbrev pub Leads : {A : Type 0} → ℕ → (A → Type 0) → Outcome A → Type 0
Leads end Q (Ok x) = Q x
Leads end Q (Err fault) = fault.at ≤ end

pub leads_on : {A B : Type 0} (end : ℕ) (Q : A → Type 0) (R : B → Type 0) (o : Outcome A) (f : A → Outcome B) → Leads end Q o → ((x : A) → Q x → Leads end R (f x))
    → Leads end R (o >>= f)
leads_on end Q R (Ok x) f held next = next x held
leads_on end Q R (Err fault) f held next = held

pub holds_if : {A : Type 0} (P : A → Type 0) (b : Bool) (x y : A) → (b ≡ true → P x) → (b ≡ false → P y) → P (if b then x else y)
holds_if P true x y then_x else_y = then_x refl
holds_if P false x y then_x else_y = else_y refl

pub or_leads : {A : Type 0} (end : ℕ) (Q : A → Type 0) (o : Option A) (code at : ℕ) → at ≤ end → ((x : A) → o ≡ Some x → Q x) → Leads end Q (or_refused o code at)
or_leads end Q (Some x) code at low next = next x refl
or_leads end Q None code at low next = low

-- ---- marks

abbrev pub AreWithin : ℕ → List Mark → Type 0
AreWithin end [] = Unit {0}
AreWithin end (m ∷ ms) = (m.at ≤ end) × AreWithin end ms

abbrev pub Rest : {X : Type 0} → ℕ → X × List Mark → Type 0
Rest end r = AreWithin end r.1

pub place_within : (end at : ℕ) (ms : List Mark) → at ≤ end → AreWithin end ms → place at ms ≤ end
place_within end at [] low h = low
place_within end at (m ∷ ms) low h = h.0

pub misfit_within : (end : ℕ) (ms : List Mark) → AreWithin end ms → place end ms ≤ end
misfit_within end ms h = place_within end end ms (omega arith) h

pub drop_within : (end n : ℕ) (ms : List Mark) → AreWithin end ms → AreWithin end (drop n ms)
drop_within end zero ms h = h
drop_within end (suc n) [] h = tt
drop_within end (suc n) (m ∷ ms) h = drop_within end n ms h.1

pub skip_within : (end : ℕ) (ms : List Mark) → AreWithin end ms → AreWithin end (skip_blanks ms)
skip_within end [] h = tt
skip_within end (m ∷ ms) h = holds_if (AreWithin end) (is_blank m.c) _ _ (λ _. skip_within end ms h.1) (λ _. h)

pub expected_leads : (end : ℕ) (word : List ℕ) (ms : List Mark) → AreWithin end ms → Leads end (AreWithin end) (expected end word ms)
expected_leads end [] ms h = h
expected_leads end (c ∷ cs) [] h = omega arith
expected_leads end (c ∷ cs) (m ∷ ms) h = holds_if (Leads end (AreWithin end)) (m.c == c) _ _ (λ _. expected_leads end cs ms h.1) (λ _. h.0)

pub comment_leads : (end : ℕ) (ms : List Mark) → AreWithin end ms → Leads end (AreWithin end) (comment end ms)
comment_leads end [] h = omega arith
comment_leads end (m ∷ ms) h =
    holds_if (Leads end (AreWithin end)) (begins (codes "-->") (m ∷ ms)) _ _ (λ _. drop_within end 2 ms h.1)
    (λ _. holds_if (Leads end (AreWithin end)) (is_xml_char m.c) _ _ (λ _. comment_leads end ms h.1) (λ _. h.0))

pub declaration_leads : (end : ℕ) (ms : List Mark) → AreWithin end ms → Leads end (AreWithin end) (declaration end ms)
declaration_leads end [] h = omega arith
declaration_leads end (m ∷ ms) h =
    holds_if (Leads end (AreWithin end)) (begins (codes "?>") (m ∷ ms)) _ _ (λ _. drop_within end 1 ms h.1) (λ _. declaration_leads end ms h.1)

run_within : (end : ℕ) (of : Class) (ms : List Mark) → AreWithin end ms → Rest end (run of ms)
run_within end of [] h = tt
run_within end of (m ∷ ms) h = holds_if (Rest {X = List ℕ} end) (is_in of m.c) _ _ (λ _. run_within end of ms h.1) (λ _. h)

whole_leads : (end : ℕ) (r : List ℕ × List Mark) → Rest end r → Leads end (Rest {X = List ℕ} end) (whole_name end r)
whole_leads end (n, []) h = omega arith
whole_leads end (n, (m ∷ ms)) h = h

pub name_leads : (end : ℕ) (of : Class) (ms : List Mark) → AreWithin end ms → Leads end (Rest {X = List ℕ} end) (name of end ms)
name_leads end of [] h = omega arith
name_leads end of (m ∷ ms) h =
    holds_if (Leads end (Rest {X = List ℕ} end)) (begins_name m.c) _ _ (λ _. whole_leads end (run of (m ∷ ms)) (run_within end of (m ∷ ms) h)) (λ _. h.0)

-- ---- texts

abbrev pub Taking : ℕ → Taken → Type 0
Taking end None = Unit {0}
Taking end (Some r) = AreWithin end r.1

rest_within : (end : ℕ) (rest : List Mark) (o : Option ℕ) → AreWithin end rest → Taking end (with_rest rest o)
rest_within end rest None h = tt
rest_within end rest (Some c) h = h

numeric_within : (end : ℕ) (of : Class) (ms : List Mark) → AreWithin end ms → Taking end (numeric of ms)
numeric_within end of ms h =
    holds_if (Taking end) (begins (codes ";") (run of ms).1) _ _
    (λ _. rest_within end (drop 1 (run of ms).1) (numeral (base_of of) (run of ms).0) (drop_within end 1 (run of ms).1 (run_within end of ms h))) (λ _. tt)

reference_within : (end : ℕ) (ms : List Mark) → AreWithin end ms → Taking end (reference ms)
unfolding reference
reference_within end ms h =
    holds_if (Taking end) (begins (codes "&lt;") ms) _ _ (λ _. drop_within end 4 ms h)
    (λ _. holds_if (Taking end) (begins (codes "&gt;") ms) _ _ (λ _. drop_within end 4 ms h)
    (λ _. holds_if (Taking end) (begins (codes "&amp;") ms) _ _ (λ _. drop_within end 5 ms h)
    (λ _. holds_if (Taking end) (begins (codes "&quot;") ms) _ _ (λ _. drop_within end 6 ms h)
    (λ _. holds_if (Taking end) (begins (codes "&apos;") ms) _ _ (λ _. drop_within end 6 ms h)
    (λ _. holds_if (Taking end) (begins (codes "&#x") ms) _ _ (λ _. numeric_within end class.HexDigit (drop 3 ms) (drop_within end 3 ms h))
    (λ _. holds_if (Taking end) (begins (codes "&#") ms) _ _ (λ _. numeric_within end class.Digit (drop 2 ms) (drop_within end 2 ms h)) (λ _. tt)))))))

abbrev pub One : ℕ → Mark × List Mark → Type 0
One end r = (r.0.at ≤ end) × AreWithin end r.1

taken_within : (end : ℕ) (o x : Taken) → Taking end o → o ≡ x → Taking end x
taken_within end o x h is = subst (Taking end) is h

character_leads : (end : ℕ) (ms : List Mark) → AreWithin end ms → Leads end (One end) (character end ms)
unfolding character
character_leads end [] h = omega arith
character_leads end (m ∷ ms) h =
    holds_if (Leads end (One end)) (m.c == 38) _ _
    (λ _. leads_on end (Rest {X = ℕ} end) (One end) (or_refused (reference (m ∷ ms)) 502 m.at) _
    (or_leads end (Rest {X = ℕ} end) (reference (m ∷ ms)) 502 m.at h.0 (λ x is. taken_within end (reference (m ∷ ms)) (Some x) (reference_within end (m ∷ ms) h) is))
    (λ x rest. (h.0, rest)))
    (λ _. holds_if (Leads end (One end)) (is_xml_char m.c) _ _ (λ _. h) (λ _. h.0))

abbrev pub Next : {X : Type 0} → (X → Type 0) → Option X → Type 0
Next Q None = Unit {0}
Next Q (Some x) = Q x

next_leads : (end stop : ℕ) (ms : List Mark) → AreWithin end ms → Leads end (Next (One end)) (next_character end stop ms)
unfolding next_character
next_leads end stop [] h = omega arith
next_leads end stop (m ∷ ms) h =
    holds_if (Leads end (Next (One end))) (m.c == stop) _ _ (λ _. tt)
    (λ _. holds_if (Leads end (Next (One end))) (m.c == 60) _ _ (λ _. h.0)
    (λ _. leads_on end (One end) (Next (One end)) (character end (m ∷ ms)) _ (character_leads end (m ∷ ms) h) (λ x one. one)))

abbrev pub IsTextWithin : ℕ → List Mark × List Mark → Type 0
IsTextWithin end r = AreWithin end r.0 × AreWithin end r.1

onto_leads : (end : ℕ) (m : Mark) (o : Outcome (List Mark × List Mark)) → m.at ≤ end → Leads end (IsTextWithin end) o → Leads end (IsTextWithin end) (onto_text (m ∷ []) o)
onto_leads end m (Ok (text, rest)) low h = ((low, h.0), h.1)
onto_leads end m (Err fault) low h = h

by_leads : (end : ℕ) (next : List Mark → Outcome (List Mark × List Mark)) (ms : List Mark) (o : Option (Mark × List Mark)) → AreWithin end ms → Next (One end) o
    → ((rest : List Mark) → AreWithin end rest → Leads end (IsTextWithin end) (next rest)) → Leads end (IsTextWithin end) (text_by next ms o)
by_leads end next ms None h one more = (tt, h)
by_leads end next ms (Some r) h one more = onto_leads end r.0 (next r.1) one.0 (more r.1 one.1)

until_leads : (turns end stop : ℕ) (ms : List Mark) → AreWithin end ms → Leads end (IsTextWithin end) (text_until turns end stop ms)
unfolding text_until
until_leads zero end stop ms h = misfit_within end ms h
until_leads (suc turns) end stop ms h =
    leads_on end (Next (One end)) (IsTextWithin end) (next_character end stop ms) _ (next_leads end stop ms h)
    (λ x one. by_leads end (text_until turns end stop) ms x h one (λ rest within. until_leads turns end stop rest within))

pub text_leads : (end stop : ℕ) (ms : List Mark) → AreWithin end ms → Leads end (IsTextWithin end) (text_to end stop ms)
text_leads end stop ms h = until_leads (suc (length ms)) end stop ms h

aux_within : (end : ℕ) (ms done : List Mark) → AreWithin end ms → AreWithin end done → AreWithin end (reverse_aux ms done)
aux_within end [] done h k = k
aux_within end (m ∷ ms) done h k = aux_within end ms (m ∷ done) h.1 (h.0, k)

reverse_within : (end : ℕ) (ms : List Mark) → AreWithin end ms → AreWithin end (reverse ms)
reverse_within end ms h = aux_within end ms [] h tt

pub trimmed_within : (end : ℕ) (ms : List Mark) → AreWithin end ms → AreWithin end (trimmed ms)
trimmed_within end ms h =
    reverse_within end (skip_blanks (reverse (skip_blanks ms)))
    (skip_within end (reverse (skip_blanks ms)) (reverse_within end (skip_blanks ms) (skip_within end ms h)))

-- ---- the marks of a packet

pub marks_within : (end at : ℕ) (cs : List ℕ) → at + length (encoded cs) ≤ end → AreWithin end (marks_from at cs)
marks_within end at [] low = tt
marks_within end at (c ∷ cs) low =
    (omega arith, marks_within end (at + length (encode_utf8 c)) cs (omega (arith, length-append (encode_utf8 c) (encoded cs))))
