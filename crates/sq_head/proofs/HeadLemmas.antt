-- Each piece is read exactly where the grammar has it.
use Rattle.std.proofs.Common.{◌≡◌, ℕ, zero, suc, ◌+◌, ◌<◌, ◌≤◌, Bool, true, false, ◌||◌, List, [], ◌∷◌, ◌++◌, length, drop, Some, None, refl, sym, ap, subst, ◌∙◌, append_assoc, arith, cond, inl, inr, length-append}
use Rattle.std.specs.Prelude.{◌==◌, ◌⊎◌, if◌then◌else◌, nat_le, nat_eq, codes}
use Rattle.std.specs.List.{list_all, starts_with, flat_map}
use Rattle.std.specs.Str.{is_utf8}
use Rattle.std.specs.Bool.{Decides}
use Rattle.std.proofs.lemmas.Bool.Decides.{nat_tests}
use Rattle.std.proofs.lemmas.Bool.{and_parts}
use Rattle.std.proofs.lemmas.Str.{IsUtf8-from_is_utf8, is_utf8-from_IsUtf8}
use Rattle.std.proofs.lemmas.List.Sums.{list_all-from_AllPass, AllPass-from_list_all}
use Rattle.std.proofs.lemmas.List.Elements.{All-nil, All-cons, All-head, All-tail}
use Rattle.std.proofs.lemmas.Slice.Eq.{starts_is}
use Rattle.httparse.specs.Grammar.{LineEnd, crlf, lf, print_end, print_blank, print_version, print_field, Field, IsField, is_token_byte, is_uri_byte, is_value_byte}
use Rattle.httparse.specs.Pieces.{Piece, Then, Newline, Blank, Word, Target, Version, FieldLine, Section, RequestStart, Stops, is_newline}
use Rattle.httparse.proofs.GrammarLemmas.{request_tree, request_head, request_pieces, request_from_pieces}
use Rattle.httparse.proofs.PieceLemmas.{colon_ends_token, space_ends_token, FieldLine_parts, print_field-append, Stops_value, Stops-FieldLine}
use Rattle.sq_head.specs.Head.{Reading, onto, followed, lf_only, line_end, onto_ends, empty_lines, run_of, stopped, word, if_text, target, version, start_line, field_ended, field_value, field, onto_fields, after_field, ended_or, section, Head, Parts, head_by, whole, head_of, IsHead}

-- a function reads a piece exactly
record Reads {A : Type 0} (G : Piece A) (f : List ℕ → Reading A) : Type 0 where
  sound : (text : List ℕ) (a : A) (rest : List ℕ) → f text ≡ Some (a, rest) → G a text rest
  complete : (text : List ℕ) (a : A) (rest : List ℕ) → G a text rest → f text ≡ Some (a, rest)

eqb_decides : (a b : ℕ) → Decides (nat_eq a b) (a ≡ b)
eqb_decides a b = (λ h. grind (arith, nat_tests, h), λ h. grind (arith, nat_tests, h))

some_is : {A : Type 0} (x y : A) → Some x ≡ Some y → x ≡ y
some_is x y e = cc

module _ {A B : Type 0} {G : Piece A} {H : Piece B} {f : List ℕ → Reading A} {g : List ℕ → Reading B} (first : Reads G f) (second : Reads H g) where
  sound_second : (text : List ℕ) (a : A) (middle : List ℕ) (read : Reading B) (p : A × B) (rest : List ℕ) → G a text middle → g middle ≡ read
      → onto a read ≡ Some (p, rest) → Then G H p text rest
  sound_second text a middle None p rest one is e = absurd (cc)
  sound_second text a middle (Some r) p rest one is e =
      let pair = some_is {A = (A × B) × List ℕ} ((a, r.0), r.1) (p, rest) e in
      subst (λ (q : (A × B) × List ℕ). Then G H q.0 text q.1) pair (middle, one, second.sound middle r.0 r.1 is)

  sound_first : (text : List ℕ) (read : Reading A) (p : A × B) (rest : List ℕ) → f text ≡ read → followed read g ≡ Some (p, rest) → Then G H p text rest
  sound_first text None p rest is e = absurd (cc)
  sound_first text (Some r) p rest is e = sound_second text r.0 r.1 (g r.1) p rest (first.sound text r.0 r.1 is) refl e

  Reads-then : Reads (Then G H) (λ text. followed (f text) g)
  Reads-then = record {
    sound = λ text p rest e. sound_first text (f text) p rest refl e;
    complete = λ text p rest h. rw (first.complete text p.0 h.0 h.1, second.complete h.0 p.1 rest h.2) refl;
  }

-- which way a test went
chosen : {A : Type 0} (t : Bool) (x y z : A) → (if t then x else y) ≡ z → ((t ≡ true) × (x ≡ z)) ⊎ ((t ≡ false) × (y ≡ z))
chosen true x y z h = inl (refl, h)
chosen false x y z h = inr (refl, h)

-- ---- line ends

test_of : (b n : ℕ) → (b == n) ≡ true → b ≡ n
test_of b n h = grind (arith, nat_tests)

lf_sound : (text : List ℕ) (e : LineEnd) (rest : List ℕ) → lf_only text ≡ Some (e, rest) → (e ≡ crlf) × (text ≡ 10 ∷ rest)
lf_sound [] e rest h = absurd (cc)
lf_sound (b ∷ bytes) e rest h = elim (chosen (b == 10) _ _ _ h) [
  | inl hit ↦ let pair = some_is (crlf, bytes) (e, rest) hit.1 in (sym (ap (λ (q : LineEnd × List ℕ). q.0) pair), cc (test_of b 10 hit.0, ap (λ (q : LineEnd × List ℕ). q.1) pair))
  | inr miss ↦ absurd (cc (miss.1))
]

line_end_sound : (text : List ℕ) (e : LineEnd) (rest : List ℕ) → line_end text ≡ Some (e, rest) → Newline e text rest
line_end_sound [] e rest h = absurd (cc)
line_end_sound (b ∷ bytes) e rest h = elim (chosen (b == 10) _ _ _ h) [
  | inl hit ↦ subst (λ (q : LineEnd × List ℕ). Newline q.0 (b ∷ bytes) q.1) (some_is (lf, bytes) (e, rest) hit.1) (cc (test_of b 10 hit.0))
  | inr miss ↦ elim (chosen (b == 13) _ _ _ miss.1) [
    | inl hit ↦ let end = lf_sound bytes e rest hit.1 in subst (λ (x : LineEnd). Newline x (b ∷ bytes) rest) (sym end.0) (cc (test_of b 13 hit.0, end.1))
    | inr none ↦ absurd (cc (none.1))
  ]
]

line_end_complete : (text : List ℕ) (e : LineEnd) (rest : List ℕ) → Newline e text rest → line_end text ≡ Some (e, rest)
line_end_complete text crlf rest h = rw h refl
line_end_complete text lf rest h = rw h refl

Reads-line_end : Reads Newline line_end
Reads-line_end = record { sound = line_end_sound; complete = line_end_complete }

-- ---- runs and words

split_on : (t : Bool) (b : ℕ) (bytes run behind : List ℕ) → bytes ≡ run ++ behind
    → b ∷ bytes ≡ (cond {A = List ℕ × List ℕ} t (b ∷ run, behind) ([], b ∷ bytes)).0 ++ (cond {A = List ℕ × List ℕ} t (b ∷ run, behind) ([], b ∷ bytes)).1
split_on true b bytes run behind h = ap (λ t. b ∷ t) h
split_on false b bytes run behind h = refl

run_split : (test : ℕ → Bool) (text : List ℕ) → text ≡ (run_of test text).0 ++ (run_of test text).1
run_split test [] = refl
run_split test (b ∷ bytes) = split_on (test b) b bytes (run_of test bytes).0 (run_of test bytes).1 (run_split test bytes)

passes_on : (test : ℕ → Bool) (t : Bool) (b : ℕ) (bytes run behind : List ℕ) → test b ≡ t → list_all test run ≡ true
    → list_all test (cond {A = List ℕ × List ℕ} t (b ∷ run, behind) ([], b ∷ bytes)).0 ≡ true
passes_on test true b bytes run behind is all = rw is all
passes_on test false b bytes run behind is all = refl

run_passes : (test : ℕ → Bool) (text : List ℕ) → list_all test (run_of test text).0 ≡ true
run_passes test [] = refl
run_passes test (b ∷ bytes) = passes_on test (test b) b bytes (run_of test bytes).0 (run_of test bytes).1 refl (run_passes test bytes)

run_reads : (test : ℕ → Bool) (run rest : List ℕ) → list_all test run ≡ true → Stops test rest → run_of test (run ++ rest) ≡ (run, rest)
run_reads test [] [] all stops = absurd stops
run_reads test [] (b ∷ rest) all stops = rw stops refl
run_reads test (b ∷ run) rest all stops =
    let both = and_parts (test b) (list_all test run) all in rw (both.0, run_reads test run rest both.1 stops) refl

module _ (test : ℕ → Bool) (stop : ℕ) (stops : test stop ≡ false) where
  stopped_sound : (text : List ℕ) (run behind w rest : List ℕ) → text ≡ run ++ behind → list_all test run ≡ true → stopped stop (run, behind) ≡ Some (w, rest) → Word test stop w text rest
  stopped_sound text [] behind w rest split all h = absurd (cc)
  stopped_sound text (b ∷ run) [] w rest split all h = absurd (cc)
  stopped_sound text (b ∷ run) (c ∷ behind) w rest split all h = elim (chosen (c == stop) _ _ _ h) [
    | inl hit ↦ subst (λ (q : List ℕ × List ℕ). Word test stop q.0 text q.1) (some_is (b ∷ run, behind) (w, rest) hit.1)
        (omega arith, AllPass-from_list_all test (b ∷ run) all, split ∙ ap (λ (x : ℕ). (b ∷ run) ++ (x ∷ behind)) (test_of c stop hit.0))
    | inr miss ↦ absurd (cc (miss.1))
  ]

  same_byte : (stop == stop) ≡ true
  same_byte = grind (arith, nat_tests)

  word_complete : (text w rest : List ℕ) → Word test stop w text rest → word test stop text ≡ Some (w, rest)
  word_complete text [] rest h = absurd (omega (arith, h.0))
  word_complete text (b ∷ w) rest h =
      rw (h.2, run_reads test (b ∷ w) (stop ∷ rest) (list_all-from_AllPass test (b ∷ w) h.1) stops, same_byte) refl

  Reads-word : Reads (Word test stop) (word test stop)
  Reads-word = record {
    sound = λ text w rest h. stopped_sound text (run_of test text).0 (run_of test text).1 w rest (run_split test text) (run_passes test text) h;
    complete = word_complete;
  }

-- ---- the request line

stops_if : (b : ℕ) (rest : List ℕ) → (b == 10 || b == 13) ≡ false → Stops is_newline (b ∷ rest)
stops_if b rest h = grind (arith, nat_tests, h)

module _ (bytes : List ℕ) (more : (e : List LineEnd) (r : List ℕ) → empty_lines bytes ≡ Some (e, r) → Blank e bytes r) where
  onto_sound : (end : LineEnd) (read : Reading (List LineEnd)) (text : List ℕ) (e : List LineEnd) (r : List ℕ) → empty_lines bytes ≡ read → text ≡ print_end end ++ bytes
      → onto_ends end read ≡ Some (e, r) → Blank e text r
  onto_sound end None text e r is front h = absurd (cc)
  onto_sound end (Some p) text e r is front h =
      let blank = more p.0 p.1 is in
      subst (λ (q : List LineEnd × List ℕ). Blank q.0 text q.1) (some_is (end ∷ p.0, p.1) (e, r) h)
      (front ∙ ap (λ t. print_end end ++ t) blank.0 ∙ sym (append_assoc (print_end end) (print_blank p.0) p.1), blank.1)

empty_sound : (text : List ℕ) (e : List LineEnd) (r : List ℕ) → empty_lines text ≡ Some (e, r) → Blank e text r
empty_sound [] e r h = absurd (cc)
empty_sound (b ∷ []) e r h = elim (chosen (b == 10 || b == 13) _ _ _ h) [
  | inl hit ↦ absurd (cc (hit.1))
  | inr miss ↦ subst (λ (q : List LineEnd × List ℕ). Blank q.0 (b ∷ []) q.1) (some_is ([], b ∷ []) (e, r) miss.1) (refl, stops_if b [] miss.0)
]
empty_sound (b ∷ (c ∷ bytes)) e r h = elim (chosen (b == 10) _ _ _ h) [
  | inl hit ↦ onto_sound (c ∷ bytes) (empty_sound (c ∷ bytes)) lf (empty_lines (c ∷ bytes)) (b ∷ (c ∷ bytes)) e r refl (cc (test_of b 10 hit.0)) hit.1
  | inr miss ↦ elim (chosen (b == 13) _ _ _ miss.1) [
    | inl hit ↦ elim (chosen (c == 10) _ _ _ hit.1) [
      | inl two ↦ onto_sound bytes (empty_sound bytes) crlf (empty_lines bytes) (b ∷ (c ∷ bytes)) e r refl (cc (test_of b 13 hit.0, test_of c 10 two.0)) two.1
      | inr none ↦ absurd (cc (none.1))
    ]
    | inr none ↦ subst (λ (q : List LineEnd × List ℕ). Blank q.0 (b ∷ (c ∷ bytes)) q.1) (some_is ([], b ∷ (c ∷ bytes)) (e, r) none.1)
        (refl, stops_if b (c ∷ bytes) (rw (miss.0, none.0) refl))
  ]
]

onto_lf : (inner : List ℕ) (e : List LineEnd) (rest : List ℕ) → empty_lines inner ≡ Some (e, rest) → empty_lines (10 ∷ inner) ≡ Some (lf ∷ e, rest)
onto_lf [] e rest h = absurd (cc)
onto_lf (c ∷ inner) e rest h = rw h refl

empty_complete : (e : List LineEnd) (rest : List ℕ) → Stops is_newline rest → empty_lines (print_blank e ++ rest) ≡ Some (e, rest)
empty_complete [] [] stops = absurd stops
empty_complete [] (b ∷ []) stops = rw (not_newline b stops) refl
  where
    not_newline : (b : ℕ) → is_newline b ≡ false → (b == 10 || b == 13) ≡ false
    not_newline b h = grind (arith, nat_tests, h)
empty_complete [] (b ∷ (c ∷ rest)) stops = rw (not_lf b stops, not_cr b stops) refl
  where
    not_lf : (b : ℕ) → is_newline b ≡ false → (b == 10) ≡ false
    not_lf b h = grind (arith, nat_tests, h)

    not_cr : (b : ℕ) → is_newline b ≡ false → (b == 13) ≡ false
    not_cr b h = grind (arith, nat_tests, h)
empty_complete (lf ∷ e) rest stops = onto_lf (print_blank e ++ rest) e rest (empty_complete e rest stops)
empty_complete (crlf ∷ e) rest stops = rw (empty_complete e rest stops) refl

Reads-empty : Reads Blank empty_lines
Reads-empty = record {
  sound = empty_sound;
  complete = λ text e rest h. ap empty_lines h.0 ∙ empty_complete e rest h.1;
}

target_sound : (text : List ℕ) (read : Reading (List ℕ)) (w rest : List ℕ) → word is_uri_byte 32 text ≡ read → if_text read ≡ Some (w, rest) → Target w text rest
target_sound text None w rest is h = absurd (cc)
target_sound text (Some r) w rest is h = elim (chosen (is_utf8 r.0) _ _ _ h) [
  | inl hit ↦ subst (λ (q : List ℕ × List ℕ). Target q.0 text q.1) (some_is r (w, rest) hit.1)
      ((Reads-word is_uri_byte 32 refl).sound text r.0 r.1 is, IsUtf8-from_is_utf8 r.0 hit.0)
  | inr miss ↦ absurd (cc (miss.1))
]

Reads-target : Reads Target target
Reads-target = record {
  sound = λ text w rest h. target_sound text (word is_uri_byte 32 text) w rest refl h;
  complete = λ text w rest h. rw ((Reads-word is_uri_byte 32 refl).complete text w rest h.0, is_utf8-from_IsUtf8 w h.1) refl;
}

version_sound : (text : List ℕ) (minor : ℕ) (rest : List ℕ) → version text ≡ Some (minor, rest) → Version minor text rest
version_sound text minor rest h = elim (chosen (starts_with nat_eq text (codes "HTTP/1.1")) _ _ _ h) [
  | inl hit ↦ subst (λ (q : ℕ × List ℕ). Version q.0 text q.1) (some_is (1, drop 8 text) (minor, rest) hit.1)
      (omega arith, (starts_is eqb_decides text (codes "HTTP/1.1") _ refl).0 hit.0)
  | inr miss ↦ elim (chosen (starts_with nat_eq text (codes "HTTP/1.0")) _ _ _ miss.1) [
    | inl hit ↦ subst (λ (q : ℕ × List ℕ). Version q.0 text q.1) (some_is (0, drop 8 text) (minor, rest) hit.1)
        (omega arith, (starts_is eqb_decides text (codes "HTTP/1.0") _ refl).0 hit.0)
    | inr none ↦ absurd (cc (none.1))
  ]
]

version_complete : (minor : ℕ) (rest : List ℕ) → minor ≤ 1 → version (print_version minor ++ rest) ≡ Some (minor, rest)
version_complete zero rest h = refl
version_complete (suc zero) rest h = refl
version_complete (suc (suc minor)) rest h = absurd (omega (arith, h))

Reads-version : Reads Version version
Reads-version = record { sound = version_sound; complete = λ text minor rest h. ap version h.1 ∙ version_complete minor rest h.0 }

Reads-start : Reads RequestStart start_line
Reads-start = Reads-then Reads-empty (Reads-then (Reads-word is_token_byte 32 space_ends_token) (Reads-then Reads-target (Reads-then Reads-version Reads-line_end)))

-- ---- fields

value_passes : (b : ℕ) → is_value_byte b ≡ true → (is_newline b ≡ false)
value_passes b h = grind (arith, nat_tests, h)

field_ended_sound : (name raw behind text : List ℕ) (read : Reading LineEnd) (f : Field) (rest : List ℕ) → 0 < length name → list_all is_token_byte name ≡ true → list_all is_value_byte raw ≡ true
    → text ≡ name ++ 58 ∷ (raw ++ behind) → line_end behind ≡ read → field_ended name raw read ≡ Some (f, rest) → FieldLine f text rest
field_ended_sound name raw behind text None f rest some tokens passes split is h = absurd (cc)
field_ended_sound name raw behind text (Some r) f rest some tokens passes split is h =
    subst (λ (q : Field × List ℕ). FieldLine q.0 text q.1) (some_is (record { name = name; raw = raw; end = r.0 }, r.1) (f, rest) h) (
      record { name = (some, AllPass-from_list_all is_token_byte name tokens); raw = AllPass-from_list_all is_value_byte raw passes },
      split ∙ ap (λ (t : List ℕ). name ++ 58 ∷ (raw ++ t)) (line_end_sound behind r.0 r.1 is) ∙ sym (print_field-append (record { name = name; raw = raw; end = r.0 }) r.1),
    )

field_sound : (text : List ℕ) (read : Reading (List ℕ)) (f : Field) (rest : List ℕ) → word is_token_byte 58 text ≡ read → field_value read ≡ Some (f, rest) → FieldLine f text rest
field_sound text None f rest is h = absurd (cc)
field_sound text (Some r) f rest is h =
    let one = (Reads-word is_token_byte 58 colon_ends_token).sound text r.0 r.1 is in
    field_ended_sound r.0 (run_of is_value_byte r.1).0 (run_of is_value_byte r.1).1 text (line_end (run_of is_value_byte r.1).1) f rest
    one.0 (list_all-from_AllPass is_token_byte r.0 one.1) (run_passes is_value_byte r.1)
    (one.2 ∙ ap (λ (t : List ℕ). r.0 ++ 58 ∷ t) (run_split is_value_byte r.1)) refl h

field_complete : (text : List ℕ) (f : Field) (rest : List ℕ) → FieldLine f text rest → field text ≡ Some (f, rest)
field_complete text f rest h =
    let parts = FieldLine_parts f text rest h in
    let named = (Reads-word is_token_byte 58 colon_ends_token).complete text f.name parts.0 parts.1 in
    let raw = run_reads is_value_byte f.raw (print_end f.end ++ rest) (list_all-from_AllPass is_value_byte f.raw h.0.raw) (Stops_value f.end rest) in
    rw (named, parts.2.1, raw, line_end_complete (print_end f.end ++ rest) f.end rest refl) refl

-- ---- sections

module _ (turns : ℕ) (later : (text : List ℕ) (s : List Field × LineEnd) (rest : List ℕ) → section turns text ≡ Some (s, rest) → Section s text rest) where
  one_more : (text middle : List ℕ) (f : Field) (read : Reading (List Field × LineEnd)) (s : List Field × LineEnd) (rest : List ℕ) → FieldLine f text middle → section turns middle ≡ read
      → onto_fields f read ≡ Some (s, rest) → Section s text rest
  one_more text middle f None s rest one is h = absurd (cc)
  one_more text middle f (Some r) s rest one is h =
      let tail = later middle r.0 r.1 is in
      subst (λ (q : (List Field × LineEnd) × List ℕ). Section q.0 text q.1) (some_is ((f ∷ r.0.0, r.0.1), r.1) (s, rest) h) (
        All-cons IsField f r.0.0 one.0 tail.0,
        one.1 ∙ ap (λ (t : List ℕ). print_field f ++ t) tail.1 ∙ sym (append_assoc (print_field f) (flat_map print_field r.0.0 ++ print_end r.0.1) r.1)
            ∙ ap (λ (t : List ℕ). t ++ r.1) (sym (append_assoc (print_field f) (flat_map print_field r.0.0) (print_end r.0.1))),
      )

  more_fields : (text : List ℕ) (read : Reading Field) (s : List Field × LineEnd) (rest : List ℕ) → field text ≡ read → after_field read (section turns) ≡ Some (s, rest) → Section s text rest
  more_fields text None s rest is h = absurd (cc)
  more_fields text (Some r) s rest is h = one_more text r.1 r.0 (section turns r.1) s rest (field_sound text (word is_token_byte 58 text) r.0 r.1 refl is) refl h

  section_by : (text : List ℕ) (read : Reading LineEnd) (s : List Field × LineEnd) (rest : List ℕ) → line_end text ≡ read → ended_or read (after_field (field text) (section turns)) ≡ Some (s, rest) → Section s text rest
  section_by text (Some r) s rest is h =
      subst (λ (q : (List Field × LineEnd) × List ℕ). Section q.0 text q.1) (some_is (([], r.0), r.1) (s, rest) h) (All-nil IsField, line_end_sound text r.0 r.1 is)
  section_by text None s rest is h = more_fields text (field text) s rest refl h

section_sound : (turns : ℕ) (text : List ℕ) (s : List Field × LineEnd) (rest : List ℕ) → section turns text ≡ Some (s, rest) → Section s text rest
section_sound zero text s rest h = absurd (cc)
section_sound (suc turns) text s rest h = section_by turns (section_sound turns) text (line_end text) s rest refl h

no_end : (text : List ℕ) → Stops is_newline text → line_end text ≡ None
no_end [] stops = absurd stops
no_end (b ∷ text) stops = rw (not_lf b stops, not_cr b stops) refl
  where
    not_lf : (b : ℕ) → is_newline b ≡ false → (b == 10) ≡ false
    not_lf b h = grind (arith, nat_tests, h)

    not_cr : (b : ℕ) → is_newline b ≡ false → (b == 13) ≡ false
    not_cr b h = grind (arith, nat_tests, h)

section_first : (g : Field) (gs : List Field) (last : LineEnd) (text rest : List ℕ) → Section (g ∷ gs, last) text rest
    → FieldLine g text ((flat_map print_field gs ++ print_end last) ++ rest)
section_first g gs last text rest x = (
  All-head IsField g gs x.0,
  x.1 ∙ ap (λ (t : List ℕ). t ++ rest) (append_assoc (print_field g) (flat_map print_field gs) (print_end last))
      ∙ append_assoc (print_field g) (flat_map print_field gs ++ print_end last) rest,
)

section_complete : (turns : ℕ) (fs : List Field) (last : LineEnd) (text rest : List ℕ) → Section (fs, last) text rest → length fs < turns → section turns text ≡ Some ((fs, last), rest)
section_complete zero fs last text rest h few = absurd (omega (arith, few))
section_complete (suc turns) [] last text rest h few = rw (line_end_complete text last rest h.1) refl
section_complete (suc turns) (f ∷ fs) last text rest h few =
    let first = section_first f fs last text rest h in
    rw (
      no_end text (Stops-FieldLine f text _ first),
      field_complete text f _ first,
      section_complete turns fs last ((flat_map print_field fs ++ print_end last) ++ rest) rest (All-tail IsField f fs h.0, refl) (omega (arith, few)),
    ) refl

begins_some : (xs ys : List ℕ) → 0 < length xs → 0 < length (xs ++ ys)
begins_some xs ys some = omega (arith, length-append xs ys, some)

fields_fit : (fs : List Field) (last : LineEnd) (text rest : List ℕ) → Section (fs, last) text rest → length fs ≤ length text
fields_fit [] last text rest h = omega arith
fields_fit (f ∷ fs) last text rest h =
    let first = section_first f fs last text rest h in
    let inner = (flat_map print_field fs ++ print_end last) ++ rest in
    let fit = fields_fit fs last inner rest (All-tail IsField f fs h.0, refl) in
    let size : length text ≡ length (print_field f) + length inner = ap length first.1 ∙ length-append (print_field f) inner in
    let some : 0 < length (print_field f) = begins_some (f.name ++ 58 ∷ f.raw) (print_end f.end) (begins_some f.name (58 ∷ f.raw) first.0.name.0) in
    omega (arith, fit, size, some)

Reads-section : Reads Section (λ rest. section (suc (length rest)) rest)
Reads-section = record {
  sound = λ text s rest h. section_sound (suc (length text)) text s rest h;
  complete = λ text s rest h. section_complete (suc (length text)) s.0 s.1 text rest h (omega (arith, fields_fit s.0 s.1 text rest h));
}

-- ---- the head

Reads-request : Reads (Then RequestStart Section) (λ bytes. followed (start_line bytes) (λ rest. section (suc (length rest)) rest))
Reads-request = Reads-then Reads-start Reads-section

few_of : (n : ℕ) → nat_le n 64 ≡ true → n ≤ 64
few_of n h = grind (arith, nat_tests, h)

of_few : (n : ℕ) → n ≤ 64 → nat_le n 64 ≡ true
of_few n h = grind (arith, nat_tests)

whole_sound : (bytes : List ℕ) (read : Reading Parts) (head : Head) → followed (start_line bytes) (λ rest. section (suc (length rest)) rest) ≡ read → whole read ≡ Some head → IsHead bytes head
whole_sound bytes None head is h = absurd (cc)
whole_sound bytes (Some (p, (b ∷ rest))) head is h = absurd (cc)
whole_sound bytes (Some (p, [])) head is h = elim (chosen (nat_le (length p.1.0) 64) _ _ _ h) [
  | inl hit ↦ record {
    tree = request_head p;
    reads = request_from_pieces bytes p [] (Reads-request.sound bytes p [] is);
    few = few_of (length p.1.0) hit.0;
    parts = sym (some_is (head_by p) head hit.1);
  }
  | inr miss ↦ absurd (cc (miss.1))
]

pub head_sound : (bytes : List ℕ) (head : Head) → head_of bytes ≡ Some head → IsHead bytes head
unfolding head_of
head_sound bytes head h = whole_sound bytes (followed (start_line bytes) (λ rest. section (suc (length rest)) rest)) head refl h

pub head_complete : (bytes : List ℕ) (head : Head) → IsHead bytes head → head_of bytes ≡ Some head
unfolding head_of
head_complete bytes head h =
    rw (Reads-request.complete bytes (request_tree h.tree) [] (request_pieces bytes h.tree [] h.reads), of_few (length h.tree.fields) h.few) (ap Some (sym h.parts))
