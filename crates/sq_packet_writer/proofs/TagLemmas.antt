-- Written names, attributes and tags are read.
use Rattle.std.proofs.Common.{◌≡◌, ℕ, zero, suc, ◌+◌, ◌<◌, nat_lt, ◌==◌, Bool, true, false, not, ◌&&◌, if◌then◌else◌, List, [], ◌∷◌, ◌++◌, length, Option, Some, None, Ok, refl, ◌∙◌, ap, arith, length-append}
use Rattle.std.proofs.lemmas.Bool.{and_parts, ltb-true}
use Rattle.std.proofs.lemmas.Bool.Decides.{nat_tests}
use Rattle.std.proofs.lemmas.Str.{encode_ascii}
use Rattle.std.specs.Prelude.{codes}
use Rattle.std.specs.Char.{encode_utf8}
use Rattle.std.specs.List.{list_all, list_any}
use Rattle.std.specs.Str.{bytes_eq, encode_utf8_all as encoded}
use Rattle.sq_base.specs.Outcome.{Outcome, ◌>>=◌}
use Rattle.sq_base.specs.Xml.{is_xml_char}
use Rattle.sq_packet.specs.declared.mark.Mark.{Mark}
use Rattle.sq_packet.specs.declared.mark.Class.{Class}
use Rattle.sq_packet.specs.declared.mark.Class.TheVariants as class
use Rattle.sq_packet.specs.declared.element.Element.{Element}
use Rattle.sq_packet.specs.declared.element.Content.TheVariants.{Elements, Words}
use Rattle.sq_packet.specs.declared.draft.Draft.{Draft}
use Rattle.sq_packet.specs.declared.draft.Tag.{Tag}
use Rattle.sq_packet.specs.declared.draft.Attribute.{Attribute}
use Rattle.sq_packet.specs.Marks.{mark, marks_from, place, begins, is_blank, skip_blanks, begins_name, is_in, run, whole_name, name}
use Rattle.sq_packet.specs.Texts.{bytes_of}
use Rattle.sq_packet.specs.Elements.{name_of, child_of, parent_of, content_of, repeats, is_seen, full_code}
use Rattle.sq_packet.specs.Packet.{attribute, attribute_at, next_attribute, ends_tag, attributes, with_attribute, no_attributes, state, at_tag, tag_end, name_ends, start_tag, end_tag, ended, turn, turn_by, element_turn, text_turn}
use Rattle.sq_packet_writer.proofs.LetterLemmas.{past, is_ascii, letters}
use Rattle.sq_packet_writer.proofs.TextLemmas.{texts, text_reads, texts_bytes, quote_stops, less_stops}

pub if_true : {A : Type 0} (b : Bool) (x y : A) → b ≡ true → (if b then x else y) ≡ x
if_true true x y h = refl
if_true false x y h = absurd cc

pub if_false : {A : Type 0} (b : Bool) (x y : A) → b ≡ false → (if b then x else y) ≡ y
if_false true x y h = absurd cc
if_false false x y h = refl

-- ---- names

abbrev pub first_is : (ℕ → Bool) → List ℕ → Bool
first_is test [] = false
first_is test (c ∷ cs) = test c

-- a name of a class of characters
pub record IsName (of : Class) (word : List ℕ) : Type 0 where
  pub begins : first_is begins_name word ≡ true
  pub known : list_all (is_in of) word ≡ true
  pub ascii : is_ascii word ≡ true

run_by : (of : Class) (c at : ℕ) (ms : List Mark) (word : List ℕ) (rest : List Mark) → is_in of c ≡ true → nat_lt c 128 ≡ true → run of ms ≡ (word, rest)
    → run of (mark c at ∷ ms) ≡ (c ∷ word, rest)
run_by of c at ms word rest known low more =
    if_true (is_in of c) (encode_utf8 c ++ (run of ms).0, (run of ms).1) ([], mark c at ∷ ms) known
    ∙ (ap (λ (r : List ℕ × List Mark). (encode_utf8 c ++ r.0, r.1)) more ∙ ap (λ (t : List ℕ). (t ++ word, rest)) (encode_ascii c (ltb-true c 128 low)))

run_reads : (of : Class) (word : List ℕ) (at stop : ℕ) (tail : List ℕ) → list_all (is_in of) word ≡ true → is_ascii word ≡ true → is_in of stop ≡ false
    → run of (marks_from at (word ++ stop ∷ tail)) ≡ (word, marks_from (past at word) (stop ∷ tail))
run_reads of [] at stop tail known low ends =
    let rest = marks_from (at + length (encode_utf8 stop)) tail in
    if_false (is_in of stop) (encode_utf8 stop ++ (run of rest).0, (run of rest).1) ([], mark stop at ∷ rest) ends
run_reads of (c ∷ cs) at stop tail known low ends =
    let here = and_parts (is_in of c) (list_all (is_in of) cs) known in
    let small = and_parts (nat_lt c 128) (is_ascii cs) low in
    run_by of c at (marks_from (at + length (encode_utf8 c)) (cs ++ stop ∷ tail)) cs (marks_from (past (at + length (encode_utf8 c)) cs) (stop ∷ tail)) here.0 small.0
    (run_reads of cs (at + length (encode_utf8 c)) stop tail here.1 small.1 ends)

name_reads : (of : Class) (end : ℕ) (word : List ℕ) (at stop : ℕ) (tail : List ℕ) → IsName of word → is_in of stop ≡ false
    → name of end (marks_from at (word ++ stop ∷ tail)) ≡ Ok (word, marks_from (past at word) (stop ∷ tail))
name_reads of end [] at stop tail known ends = let no : false ≡ true = known.begins in absurd cc
name_reads of end (b ∷ bs) at stop tail known ends =
    if_true (begins_name b) (whole_name end (run of (marks_from at ((b ∷ bs) ++ stop ∷ tail)))) _ known.begins
    ∙ ap (whole_name end) (run_reads of (b ∷ bs) at stop tail known.known known.ascii ends)

name_front : (b : ℕ) → begins_name b ≡ true → (is_blank b ≡ false) × ((b == 47) ≡ false) × ((b == 62) ≡ false) × ((b == 33) ≡ false)
name_front b h = (grind (arith, nat_tests), grind (arith, nat_tests), grind (arith, nat_tests), grind (arith, nat_tests))

-- what a name isn't, at the front
record Front (ms : List Mark) : Type 0 where
  blank : skip_blanks ms ≡ ms
  tag : ends_tag ms ≡ false
  comment : begins (codes "!") ms ≡ false
  closing : begins (codes "/") ms ≡ false

word_front : (at : ℕ) (word rest : List ℕ) → first_is begins_name word ≡ true → Front (marks_from at (word ++ rest))
word_front at [] rest h = absurd cc
word_front at (b ∷ bs) rest h =
    let known = name_front b h in
    record { blank = rw known.0 refl; tag = rw (known.1, known.2) refl; comment = rw known.3 refl; closing = rw known.1 refl }

-- ---- attributes

-- the characters of an attribute, and what follows
abbrev pub said : List ℕ → List ℕ → List ℕ → List ℕ
said word cs tail = 32 ∷ (word ++ 61 ∷ (34 ∷ (letters cs ++ 34 ∷ tail)))

pub length_said : (word cs tail : List ℕ) → length tail < length (said word cs tail)
length_said word cs tail = omega (arith, length-append word (61 ∷ (34 ∷ (letters cs ++ 34 ∷ tail))), length-append (letters cs) (34 ∷ tail))

pub record AttributeReads (end at : ℕ) (names : List (List ℕ)) (word cs tail : List ℕ) : Type 0 where
  pub at_value : ℕ
  pub behind : ℕ
  pub is : next_attribute end names (marks_from at (said word cs tail)) ≡ Ok (Some (attribute word (encoded cs) at_value, marks_from behind tail))

attribute_is : (end at : ℕ) (names : List (List ℕ)) (word cs tail : List ℕ) (at_text : ℕ) → at_text ≡ past (past at word) (61 ∷ (34 ∷ [])) → IsName class.AttributeName word
    → list_any (bytes_eq word) names ≡ false → list_all is_xml_char cs ≡ true
    → attribute_at end names (marks_from at (word ++ 61 ∷ (34 ∷ (letters cs ++ 34 ∷ tail))))
    ≡ Ok (attribute word (bytes_of (texts at_text cs)) (place end (marks_from at_text (letters cs ++ 34 ∷ tail))), marks_from (past (past at_text (letters cs)) (34 ∷ [])) tail)
unfolding attribute_at
attribute_is end at names word cs tail at_text here known fresh xml =
    rw (
      here,
      name_reads class.AttributeName end word at 61 (34 ∷ (letters cs ++ 34 ∷ tail)) known refl,
      fresh,
      text_reads end 34 (past (past at word) (61 ∷ (34 ∷ []))) cs tail quote_stops xml,
    ) refl

pub attribute_reads : (end at : ℕ) (names : List (List ℕ)) (word cs tail : List ℕ) → IsName class.AttributeName word → list_any (bytes_eq word) names ≡ false
    → list_all is_xml_char cs ≡ true → AttributeReads end at names word cs tail
unfolding next_attribute
attribute_reads end at names word cs tail known fresh xml =
    let from = past at (32 ∷ []) in
    let at_text = past (past from word) (61 ∷ (34 ∷ [])) in
    let front = word_front from word (61 ∷ (34 ∷ (letters cs ++ 34 ∷ tail))) known.begins in
    let one = attribute_is end from names word cs tail at_text refl known fresh xml in
    record {
      at_value = place end (marks_from at_text (letters cs ++ 34 ∷ tail));
      behind = past (past at_text (letters cs)) (34 ∷ []);
      is = rw (front.blank, front.tag, one, texts_bytes at_text cs) refl;
    }

pub attributes_on : (turns end : ℕ) (e : Element) (names : List (List ℕ)) (tag after : Tag) (ms : List Mark) (a : Attribute) (rest : List Mark)
    → next_attribute end names ms ≡ Ok (Some (a, rest)) → with_attribute e a tag ≡ Ok after
    → attributes (suc turns) end e names tag ms ≡ attributes turns end e (names ++ a.name ∷ []) after rest
unfolding attributes
attributes_on turns end e names tag after ms a rest next says = rw (next, says) refl

pub attributes_end : (turns end : ℕ) (e : Element) (names : List (List ℕ)) (tag : Tag) (ms : List Mark) → 0 < turns → skip_blanks ms ≡ ms → ends_tag ms ≡ true
    → attributes turns end e names tag ms ≡ Ok (tag, ms)
unfolding attributes next_attribute
attributes_end zero end e names tag ms some blank ends = absurd (omega arith)
attributes_end (suc turns) end e names tag ms some blank ends = rw (blank, ends) (ap (λ (r : List Mark). Ok (tag, r)) blank)

-- ---- tags

-- an element may begin here
pub record Opens (inside : Option Element) (e : Element) (d : Draft) : Type 0 where
  pub named : IsName class.Name (name_of e)
  pub child : child_of inside (name_of e) ≡ Some e
  pub room : full_code (Some e) d ≡ None
  pub first : (not (repeats e) && is_seen e d.seen) ≡ false

pub start_reads : (end at : ℕ) (inside : Option Element) (d : Draft) (e : Element) (stop : ℕ) (more : List ℕ) (tag : Tag) (rest : List Mark) → Opens inside e d
    → is_in class.Name stop ≡ false → name_ends end (marks_from (past (past at (60 ∷ [])) (name_of e)) (stop ∷ more)) ≡ Ok tt
    → attributes (suc (length (marks_from (past (past at (60 ∷ [])) (name_of e)) (stop ∷ more)))) end e [] no_attributes
    (marks_from (past (past at (60 ∷ [])) (name_of e)) (stop ∷ more)) ≡ Ok (tag, rest)
    → start_tag end inside d (marks_from at (60 ∷ (name_of e ++ stop ∷ more))) ≡ tag_end end e at inside tag (at_tag e at d) rest
unfolding start_tag
start_reads end at inside d e stop more tag rest known stops ends attrs =
    rw (name_reads class.Name end (name_of e) (past at (60 ∷ [])) stop more known.named stops, known.child, known.room, ends, known.first, attrs) refl

pub end_reads : (end at : ℕ) (e : Element) (text : List Mark) (d done : Draft) (more : List ℕ) → IsName class.Name (name_of e) → bytes_eq (name_of e) (name_of e) ≡ true
    → ended e text at d ≡ Ok done
    → end_tag end e text d (marks_from at (60 ∷ (47 ∷ (name_of e ++ 62 ∷ more))))
    ≡ Ok (state (marks_from (past (past (past at (60 ∷ (47 ∷ []))) (name_of e)) (62 ∷ [])) more) (parent_of e) done)
unfolding end_tag
end_reads end at e text d done more named same ends =
    rw (ends, name_reads class.Name end (name_of e) (past at (60 ∷ (47 ∷ []))) 62 more named refl, same) refl

-- ---- turns

elements_turn : (end : ℕ) (e : Element) (d : Draft) (ms : List Mark) → content_of e ≡ Elements → turn end (state ms (Some e) d) ≡ element_turn end e d (skip_blanks ms)
unfolding turn
elements_turn end e d ms content = ap (λ (c : _). turn_by c end e d ms) content

words_turn : (end : ℕ) (e : Element) (d : Draft) (ms : List Mark) → content_of e ≡ Words → turn end (state ms (Some e) d) ≡ text_turn end e d ms
unfolding turn
words_turn end e d ms content = ap (λ (c : _). turn_by c end e d ms) content

pub start_turn : (end at : ℕ) (parent : Element) (d : Draft) (word rest : List ℕ) → content_of parent ≡ Elements → first_is begins_name word ≡ true
    → turn end (state (marks_from at (60 ∷ (word ++ rest))) (Some parent) d) ≡ start_tag end (Some parent) d (marks_from at (60 ∷ (word ++ rest)))
start_turn end at parent d word rest content begins =
    let front = word_front (past at (60 ∷ [])) word rest begins in
    elements_turn end parent d (marks_from at (60 ∷ (word ++ rest))) content ∙ rw (front.comment, front.closing) refl

pub end_turn : (end at : ℕ) (e : Element) (d : Draft) (rest : List ℕ) → content_of e ≡ Elements
    → turn end (state (marks_from at (60 ∷ (47 ∷ rest))) (Some e) d) ≡ end_tag end e [] d (marks_from at (60 ∷ (47 ∷ rest)))
end_turn end at e d rest content = elements_turn end e d (marks_from at (60 ∷ (47 ∷ rest))) content

-- an element of words, with its end tag
pub text_turns : (end at : ℕ) (e : Element) (cs more : List ℕ) (d : Draft) → content_of e ≡ Words → list_all is_xml_char cs ≡ true
    → turn end (state (marks_from at (letters cs ++ 60 ∷ more)) (Some e) d) ≡ end_tag end e (texts at cs) d (marks_from (past at (letters cs)) (60 ∷ more))
text_turns end at e cs more d content xml =
    words_turn end e d (marks_from at (letters cs ++ 60 ∷ more)) content
    ∙ ap (λ (o : Outcome (List Mark × List Mark)). o >>= (λ (text : List Mark × List Mark). end_tag end e text.0 d text.1)) (text_reads end 60 at cs more less_stops xml)
