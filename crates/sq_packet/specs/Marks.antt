-- The characters of a text with their places, and what reading takes from the front.
use Rattle.std.specs.Prelude.{◌≡◌, ℕ, ◌+◌, Bool, true, false, ◌&&◌, ◌||◌, ◌==◌, if◌then◌else◌, List, [], ◌∷◌, ◌++◌, drop, length, codes, Ok, Err, Result, nat_lt}
use Rattle.std.specs.Char.{encode_utf8, is_ascii_alphabetic, is_ascii_alphanumeric, is_ascii_digit, is_ascii_hexdigit}
use Rattle.std.specs.List.{list_all}
use Rattle.std.specs.Borrow.{Bor}
use Rattle.sq_base.specs.declared.faults.QueryFault.{QueryFault}
use Rattle.sq_base.specs.Outcome.{Outcome, refused}
use Rattle.sq_base.specs.Xml.{is_xml_char}
use Rattle.sq_packet.specs.declared.mark.Mark.{Mark}
use Rattle.sq_packet.specs.declared.mark.Class.{Class}
use Rattle.sq_packet.specs.declared.mark.Class.TheVariants as class

abbrev pub mark : ℕ → ℕ → Mark
mark c at = record { c = c; at = at }

-- the characters with their places, of which the first has this one
abbrev pub marks_from : ℕ → List ℕ → List Mark
marks_from at [] = []
marks_from at (c ∷ cs) = mark c at ∷ marks_from (at + length (encode_utf8 c)) cs

-- A place is a number of bytes from the front of the packet; `end` is its length.
abbrev pub place : ℕ → List Mark → ℕ
place end [] = end
place end (m ∷ ms) = m.at

-- the first character fits no rule, or the text ends early
abbrev pub misfit : {A : Type 0} → ℕ → List Mark → Outcome A
misfit end ms = refused 502 (place end ms)

-- goes on unless the test holds
abbrev pub unless : Bool → ℕ → ℕ → Outcome (Unit {0})
unless test code at = if test then refused code at else Ok tt

abbrev pub has_some : {A : Type 0} → List A → Bool
has_some [] = false
has_some (x ∷ xs) = true

-- the marks begin with these characters
abbrev pub begins : List ℕ → List Mark → Bool
begins [] ms = true
begins (c ∷ cs) [] = false
begins (c ∷ cs) (m ∷ ms) = m.c == c && begins cs ms

-- what stands behind these characters, which have to come
abbrev pub expected : ℕ → List ℕ → List Mark → Outcome (List Mark)
expected end [] ms = Ok ms
expected end (c ∷ cs) [] = misfit end []
expected end (c ∷ cs) (m ∷ ms) = if m.c == c then expected end cs ms else misfit end (m ∷ ms)

-- tab, line feed, carriage return and space
abbrev pub is_blank : ℕ → Bool
is_blank c = c == 9 || c == 10 || c == 13 || c == 32

abbrev pub skip_blanks : List Mark → List Mark
skip_blanks [] = []
skip_blanks (m ∷ ms) = if is_blank m.c then skip_blanks ms else m ∷ ms

abbrev pub begins_blank : List Mark → Bool
begins_blank [] = false
begins_blank (m ∷ ms) = is_blank m.c

-- behind the `-->` that ends a comment
abbrev pub comment : ℕ → List Mark → Outcome (List Mark)
comment end [] = misfit end []
comment end (m ∷ ms) =
    if begins (codes "-->") (m ∷ ms) then Ok (drop 2 ms) else (if is_xml_char m.c then comment end ms else misfit end (m ∷ ms))

-- behind the `?>` that ends a declaration
abbrev pub declaration : ℕ → List Mark → Outcome (List Mark)
declaration end [] = misfit end []
declaration end (m ∷ ms) = if begins (codes "?>") (m ∷ ms) then Ok (drop 1 ms) else declaration end ms

-- ---- names and numbers

abbrev pub begins_name : ℕ → Bool
begins_name c = is_ascii_alphabetic c || c == 95

abbrev pub is_name_char : ℕ → Bool
is_name_char c = is_ascii_alphanumeric c || c == 95 || c == 45 || c == 46

abbrev pub is_in : Class → ℕ → Bool
is_in class.Name c = is_name_char c
is_in class.AttributeName c = is_name_char c || c == 58
is_in class.Digit c = is_ascii_digit c
is_in class.HexDigit c = is_ascii_hexdigit c

-- the text of the characters of a class at the front, and the marks behind them
abbrev pub run : Class → List Mark → List ℕ × List Mark
run of [] = ([], [])
run of (m ∷ ms) = if is_in of m.c then (let more = run of ms in (encode_utf8 m.c ++ more.0, more.1)) else ([], m ∷ ms)

-- a name that ends where the text ends isn't known to be whole
abbrev pub whole_name : ℕ → List ℕ × List Mark → Outcome (List ℕ × List Mark)
whole_name end (name, []) = misfit end []
whole_name end (name, (m ∷ ms)) = Ok (name, m ∷ ms)

-- the name at the front
abbrev pub name : Class → ℕ → List Mark → Outcome (List ℕ × List Mark)
name of end [] = misfit end []
name of end (m ∷ ms) = if begins_name m.c then whole_name end (run of (m ∷ ms)) else misfit end (m ∷ ms)

-- each character is ASCII
abbrev pub is_ascii_word : List ℕ → Type 0
is_ascii_word word = list_all (λ b. nat_lt b 128) word ≡ true

-- what a call that takes no memory answers
abbrev pub Reads : Outcome (List Mark) → Result (Bor (List Mark)) QueryFault → Type 0
Reads outcome (Ok marks) = outcome ≡ Ok marks.now
Reads outcome (Err fault) = outcome ≡ Err fault
