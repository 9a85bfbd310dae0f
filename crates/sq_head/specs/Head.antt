-- The head of a request as a function of its bytes (RFC 9112, sections 2 to 5), in the grammar of `httparse`, piece by piece. Each piece is read
-- from the front, and gives what it is and the bytes behind it. The public law `heads_are_of_the_grammar` ties it to that grammar.
use Rattle.std.specs.Prelude.{◌≡◌, ℕ, zero, suc, Bool, ◌||◌, ◌==◌, if◌then◌else◌, nat_le, nat_eq, List, [], ◌∷◌, map, length, drop, Option, Some, None, codes, ◌≤◌}
use Rattle.std.specs.List.{starts_with}
use Rattle.std.specs.Str.{is_utf8}
use Rattle.httparse.specs.Grammar.{LineEnd, crlf, lf, Field, RequestHead, is_token_byte, is_uri_byte, is_value_byte, ReadsRequest}
use Rattle.httparse.specs.Spans.{name_and_value}

-- what a piece is and the bytes behind it, if the bytes begin with one
abbrev pub Reading : Type 0 → Type 0
Reading A = Option (A × List ℕ)

abbrev pub onto : {A B : Type 0} → A → Reading B → Reading (A × B)
onto a None = None
onto a (Some r) = Some ((a, r.0), r.1)

-- one piece and then another
abbrev pub followed : {A B : Type 0} → Reading A → (List ℕ → Reading B) → Reading (A × B)
followed None g = None
followed (Some r) g = onto r.0 (g r.1)

abbrev pub lf_only : List ℕ → Reading LineEnd
lf_only [] = None
lf_only (b ∷ bytes) = if b == 10 then Some (crlf, bytes) else None

-- CR LF, or LF
abbrev pub line_end : List ℕ → Reading LineEnd
line_end [] = None
line_end (b ∷ bytes) = if b == 10 then Some (lf, bytes) else (if b == 13 then lf_only bytes else None)

abbrev pub onto_ends : LineEnd → Reading (List LineEnd) → Reading (List LineEnd)
onto_ends end None = None
onto_ends end (Some r) = Some (end ∷ r.0, r.1)

-- empty lines, all of them; something has to follow
abbrev pub empty_lines : List ℕ → Reading (List LineEnd)
empty_lines [] = None
empty_lines (b ∷ []) = if b == 10 || b == 13 then None else Some ([], b ∷ [])
empty_lines (b ∷ (c ∷ bytes)) =
    if b == 10 then onto_ends lf (empty_lines (c ∷ bytes))
    else (if b == 13 then (if c == 10 then onto_ends crlf (empty_lines bytes) else None)
    else Some ([], b ∷ (c ∷ bytes)))

-- the bytes at the front that pass the test, and those behind them
abbrev pub run_of : (ℕ → Bool) → List ℕ → List ℕ × List ℕ
run_of test [] = ([], [])
run_of test (b ∷ bytes) = if test b then (b ∷ (run_of test bytes).0, (run_of test bytes).1) else ([], b ∷ bytes)

abbrev pub stopped : ℕ → List ℕ × List ℕ → Reading (List ℕ)
stopped stop ([], rest) = None
stopped stop ((b ∷ word), []) = None
stopped stop ((b ∷ word), (c ∷ rest)) = if c == stop then Some (b ∷ word, rest) else None

-- one or more bytes that pass the test, and the byte `stop`
abbrev pub word : (ℕ → Bool) → ℕ → List ℕ → Reading (List ℕ)
word test stop bytes = stopped stop (run_of test bytes)

abbrev pub if_text : Reading (List ℕ) → Reading (List ℕ)
if_text None = None
if_text (Some r) = if is_utf8 r.0 then Some r else None

-- the target and the space behind it; it is UTF-8
abbrev pub target : List ℕ → Reading (List ℕ)
target bytes = if_text (word is_uri_byte 32 bytes)

-- the minor number of the version
abbrev pub version : List ℕ → Reading ℕ
version bytes =
    if starts_with nat_eq bytes (codes "HTTP/1.1") then Some (1, drop 8 bytes)
    else (if starts_with nat_eq bytes (codes "HTTP/1.0") then Some (0, drop 8 bytes) else None)

-- method, target and version, behind empty lines, and the line's end
abbrev pub start_line : List ℕ → Reading (List LineEnd × (List ℕ × (List ℕ × (ℕ × LineEnd))))
start_line bytes = followed (empty_lines bytes) (λ b. followed (word is_token_byte 32 b) (λ c. followed (target c) (λ d. followed (version d) line_end)))

abbrev pub field_ended : List ℕ → List ℕ → Reading LineEnd → Reading Field
field_ended name raw None = None
field_ended name raw (Some r) = Some (record { name = name; raw = raw; end = r.0 }, r.1)

abbrev pub field_value : Reading (List ℕ) → Reading Field
field_value None = None
field_value (Some r) = field_ended r.0 (run_of is_value_byte r.1).0 (line_end (run_of is_value_byte r.1).1)

-- name ":" value line-end
abbrev pub field : List ℕ → Reading Field
field bytes = field_value (word is_token_byte 58 bytes)

abbrev pub onto_fields : Field → Reading (List Field × LineEnd) → Reading (List Field × LineEnd)
onto_fields f None = None
onto_fields f (Some r) = Some ((f ∷ r.0.0, r.0.1), r.1)

abbrev pub after_field : Reading Field → (List ℕ → Reading (List Field × LineEnd)) → Reading (List Field × LineEnd)
after_field None more = None
after_field (Some r) more = onto_fields r.0 (more r.1)

abbrev pub ended_or : Reading LineEnd → Reading (List Field × LineEnd) → Reading (List Field × LineEnd)
ended_or (Some r) more = Some (([], r.0), r.1)
ended_or None more = more

-- Fields, and the empty line that ends them. The number bounds the turns: each takes a byte.
abbrev pub section : ℕ → List ℕ → Reading (List Field × LineEnd)
section zero bytes = None
section (suc turns) bytes = ended_or (line_end bytes) (after_field (field bytes) (section turns))

-- What a server needs of a head. Each field is its name, as it is spelled, and its value without the spaces and tabs at both ends.
pub record Head : Type 0 where
  pub method : List ℕ
  pub target : List ℕ
  pub minor : ℕ
  pub fields : List (List ℕ × List ℕ)

-- the pieces of a head, as they are read
abbrev pub Parts : Type 0
Parts = (List LineEnd × (List ℕ × (List ℕ × (ℕ × LineEnd)))) × (List Field × LineEnd)

abbrev pub head_by : Parts → Head
head_by p = record { method = p.0.1.0; target = p.0.1.1.0; minor = p.0.1.1.1.0; fields = map name_and_value p.1.0 }

-- the fields of a head
abbrev pub most_fields : ℕ
most_fields = 64

-- nothing may stand behind the head, and it has not too many fields
abbrev pub whole : Reading Parts → Option Head
whole None = None
whole (Some (p, [])) = if nat_le (length p.1.0) most_fields then Some (head_by p) else None
whole (Some (p, (b ∷ rest))) = None

-- the head that the bytes are, whole, without too many fields
unfoldable pub head_of : List ℕ → Option Head
head_of bytes = whole (followed (start_line bytes) (λ rest. section (suc (length rest)) rest))

-- what is kept of a head of the grammar
abbrev pub kept_of : RequestHead → Head
kept_of h = record { method = h.method; target = h.target; minor = h.minor; fields = map name_and_value h.fields }

-- the bytes are, whole, a head of the grammar without too many fields
pub record IsHead (bytes : List ℕ) (head : Head) : Type 0 where
  pub tree : RequestHead
  pub reads : ReadsRequest bytes tree []
  pub few : length tree.fields ≤ most_fields
  pub parts : head ≡ kept_of tree

-- `head_of` gives a head exactly where the bytes are one of the grammar, and that one
pub record HeadsAreOfTheGrammar : Type 0 where
  pub sound : (bytes : List ℕ) (head : Head) → head_of bytes ≡ Some head → IsHead bytes head
  pub complete : (bytes : List ℕ) (head : Head) → IsHead bytes head → head_of bytes ≡ Some head
