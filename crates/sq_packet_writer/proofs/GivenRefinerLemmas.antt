-- The refiners that reading gives may be written.
use Rattle.std.proofs.Common.{◌≡◌, ℕ, ◌<◌, ◌≤◌, nat_lt, nat_le, ◌==◌, Bool, true, false, ◌&&◌, if◌then◌else◌, List, [], ◌∷◌, ◌++◌, length, Option, Some, None, Result, Ok, Err, ℤ, pos, negsuc, neg_ℤ, FitsSigned, w64, All, refl, ◌∙◌, ap, arith}
use Rattle.std.proofs.lemmas.Bool.{and_from, and_parts, ne_eqb, eqb-true, leb-true}
use Rattle.std.proofs.lemmas.Int.{ints}
use Rattle.std.proofs.lemmas.List.Elements.{All-nil, All-cons}
use Rattle.std.proofs.lemmas.List.Splits.{slice_split-cons_no}
use Rattle.std.specs.Char.{encode_utf8}
use Rattle.std.specs.List.{list_all, slice_split, onto_first}
use Rattle.std.specs.Str.{encode_utf8_all as encoded}
use Rattle.std.specs.Str.Parse.{starts_with_minus, digits_value}
use Rattle.sq_base.specs.Xml.{is_xml_char}
use Rattle.sq_schema.specs.declared.values.NumberFault.{NumberFault}
use Rattle.sq_schema.specs.Bounds.{is_integer_value}
use Rattle.sq_schema.specs.Values.{is_numeral, behind_minus, fitting, signed_64, number_of}
use Rattle.sq_packet.specs.declared.request.RefinerSpec.{RefinerSpec}
use Rattle.sq_packet.specs.Asked.{HasBuckets}
use Rattle.sq_packet.specs.Refiners.{is_refiner_name, are_rising, onto_numbers, numbers_of, with_bounds, is_manual, bounded, discretized, is_end, closed_list, refiner_by, refiner_parts, refiner_of}
use Rattle.sq_packet_writer.specs.Writable.{IsXmlText, IsWritableRefiner}
use Rattle.sq_packet_writer.proofs.GivenLemmas.{Holds, IsXml, holds_if, encoded_xml}

-- ---- the bounds

abbrev IsNumber : Result ℤ NumberFault → Type 0
IsNumber (Ok n) = FitsSigned w64 n
IsNumber (Err fault) = Unit {0}

integer_fits : (n : ℤ) → is_integer_value n ≡ true → FitsSigned w64 n
integer_fits (pos n) h = record { sfits = grind (arith, ints, h) }
integer_fits (negsuc n) h = record { sfits = grind (arith, ints, h) }

fitting_is : (n : ℤ) → IsNumber (fitting n)
fitting_is n = holds_if IsNumber (is_integer_value n) _ _ (λ yes. integer_fits n yes) (λ _. tt)

signed_is : (negative : Bool) (size : ℕ) → IsNumber (signed_64 negative size)
signed_is negative size = fitting_is (if negative then neg_ℤ (pos size) else pos size)

number_is : (text : List ℕ) → IsNumber (number_of text)
unfolding number_of
number_is text =
    holds_if IsNumber (is_numeral (behind_minus text)) _ _ (λ _. signed_is (starts_with_minus text) (digits_value 10 (behind_minus text))) (λ _. tt)

onto_are : (n : Result ℤ NumberFault) (ns : Option (List ℤ)) → IsNumber n → Holds (All (FitsSigned w64)) ns → Holds (All (FitsSigned w64)) (onto_numbers n ns)
onto_are (Ok n) (Some ns) h k = All-cons (FitsSigned w64) n ns h k
onto_are n ns h k = tt

numbers_are : (parts : List (List ℕ)) → Holds (All (FitsSigned w64)) (numbers_of parts)
numbers_are [] = All-nil (FitsSigned w64)
numbers_are (part ∷ parts) = onto_are (number_of part) (numbers_of parts) (number_is part) (numbers_are parts)

-- ---- the name

-- the byte stands nowhere
abbrev Apart : ℕ → List ℕ → Type 0
Apart d [] = Unit {0}
Apart d (b ∷ bs) = ((b == d) ≡ false) × Apart d bs

above : (b d : ℕ) → d < 128 → 128 ≤ b → (b == d) ≡ false
above b d low high = ne_eqb b d (λ same. absurd (omega arith))

encode_apart : (c d : ℕ) → d < 128 → (c == d) ≡ false → Apart d (encode_utf8 c)
unfolding encode_utf8
encode_apart c d low other =
    holds_if (Apart d) (nat_lt c 128) _ _ (λ _. (other, tt))
    (λ _. holds_if (Apart d) (nat_lt c 2048) _ _ (λ _. (above _ d low (omega arith), (above _ d low (omega arith), tt)))
    (λ _. holds_if (Apart d) (nat_lt c 65536) _ _ (λ _. (above _ d low (omega arith), (above _ d low (omega arith), (above _ d low (omega arith), tt))))
    (λ _. (above _ d low (omega arith), (above _ d low (omega arith), (above _ d low (omega arith), (above _ d low (omega arith), tt)))))))

split_on : (d : ℕ) (xs ys first : List ℕ) (more : List (List ℕ)) → Apart d xs → slice_split (λ b. b == d) ys ≡ first ∷ more
    → slice_split (λ b. b == d) (xs ++ ys) ≡ (xs ++ first) ∷ more
split_on d [] ys first more apart is = is
split_on d (x ∷ xs) ys first more apart is =
    slice_split-cons_no (λ b. b == d) x (xs ++ ys) apart.0 ∙ ap (onto_first x) (split_on d xs ys first more apart.1 is)

-- the text before the first `(` holds whole characters
record Front (cs : List ℕ) : Type 0 where
  front : List ℕ
  more : List (List ℕ)
  xml : list_all is_xml_char front ≡ true
  is : slice_split (λ b. b == 40) (encoded cs) ≡ encoded front ∷ more

begins_split : (c : ℕ) (bytes first : List ℕ) (more : List (List ℕ)) → c ≡ 40 → slice_split (λ b. b == 40) bytes ≡ first ∷ more
    → slice_split (λ b. b == 40) (encode_utf8 c ++ bytes) ≡ [] ∷ (first ∷ more)
unfolding encode_utf8
begins_split c bytes first more is cut = rw is (ap (λ (parts : List (List ℕ)). [] ∷ parts) cut)

front_by : (c : ℕ) (cs : List ℕ) (b : Bool) → (c == 40) ≡ b → IsXml c → Front cs → Front (c ∷ cs)
front_by c cs true is xml f =
    record { front = []; more = encoded f.front ∷ f.more; xml = refl; is = begins_split c (encoded cs) (encoded f.front) f.more (eqb-true c 40 is) f.is }
front_by c cs false is xml f = record {
  front = c ∷ f.front;
  more = f.more;
  xml = and_from (is_xml_char c) (list_all is_xml_char f.front) xml f.xml;
  is = split_on 40 (encode_utf8 c) (encoded cs) (encoded f.front) f.more (encode_apart c 40 (omega arith) is) f.is;
}

front_of : (cs : List ℕ) → list_all is_xml_char cs ≡ true → Front cs
front_of [] h = record { front = []; more = []; xml = refl; is = refl }
front_of (c ∷ cs) h =
    let parts = and_parts (is_xml_char c) (list_all is_xml_char cs) h in
    front_by c cs (c == 40) refl parts.0 (front_of cs parts.1)

-- ---- the refiner

abbrev pub IsRefiner : RefinerSpec → Type 0
IsRefiner r = IsWritableRefiner r × HasBuckets r

abbrev IsNamed : List ℕ → Type 0
IsNamed name = IsXmlText name × (is_refiner_name name ≡ true)

with_bounds_good : (name : List ℕ) (o : Option (List ℤ)) → IsNamed name → Holds (All (FitsSigned w64)) o → Holds IsRefiner (with_bounds name o)
with_bounds_good name None named fit = tt
with_bounds_good name (Some bounds) named fit =
    holds_if (Holds IsRefiner) (nat_le (length bounds) 64 && are_rising bounds) _ _
    (λ yes. let parts = and_parts (nat_le (length bounds) 64) (are_rising bounds) yes in
    (record { text = named.0; name = named.1; bounds = fit }, record { few = leb-true (length bounds) 64 parts.0; rising = parts.1 })) (λ _. tt)

bounded_good : (name : List ℕ) (parts : List (List ℕ)) → IsNamed name → Holds IsRefiner (bounded name parts)
bounded_good name [] named = tt
bounded_good name (bound ∷ bounds) named = with_bounds_good name (numbers_of (bound ∷ bounds)) named (numbers_are (bound ∷ bounds))

discretized_good : (name : List ℕ) (parts : List (List ℕ)) → IsNamed name → Holds IsRefiner (discretized name parts)
discretized_good name [] named = tt
discretized_good name (word ∷ bounds) named = holds_if (Holds IsRefiner) (is_manual word) _ _ (λ _. bounded_good name bounds named) (λ _. tt)

closed_good : (name : List ℕ) (parts : List (List ℕ)) → IsNamed name → Holds IsRefiner (closed_list name parts)
closed_good name [] named = tt
closed_good name (list ∷ behind) named =
    holds_if (Holds IsRefiner) (is_end behind) _ _ (λ _. discretized_good name (slice_split (λ b. b == 47) list) named) (λ _. tt)

by_good : (name : List ℕ) (more : List (List ℕ)) → IsNamed name → Holds IsRefiner (refiner_by name more)
by_good name [] named = (record { text = named.0; name = named.1; bounds = All-nil (FitsSigned w64) }, record { few = omega arith; rising = refl })
by_good name (inside ∷ []) named = closed_good name (slice_split (λ b. b == 41) inside) named
by_good name (inside ∷ (other ∷ more)) named = tt

parts_good : (name : List ℕ) (more : List (List ℕ)) → IsXmlText name → Holds IsRefiner (refiner_parts (name ∷ more))
parts_good name more xml = holds_if (Holds IsRefiner) (is_refiner_name name) _ _ (λ yes. by_good name more (xml, yes)) (λ _. tt)

pub refiner_good : (cs : List ℕ) → list_all is_xml_char cs ≡ true → Holds IsRefiner (refiner_of (encoded cs))
unfolding refiner_of
refiner_good cs h = let f = front_of cs h in rw f.is (parts_good (encoded f.front) f.more (encoded_xml f.front f.xml))
