-- The lexemes of a text of the Keyword Query Language. A place is a number of bytes from the text's start.
use Rattle.std.specs.Prelude.{ℕ, zero, suc, ◌+◌, ◌-◌, ℤ, pos, neg_ℤ, Bool, true, false, not, ◌&&◌, ◌||◌, ◌==◌, nat_lt, nat_le, if◌then◌else◌, List, [], ◌∷◌, ◌++◌, length, find, slice_index, slice_range, Option, Some, None, is_some, Ok, Err, codes}
use Rattle.std.specs.Option.{option_map}
use Rattle.std.specs.Char.{is_ascii_alphabetic}
use Rattle.std.specs.List.{list_any}
use Rattle.std.specs.Str.{bytes_eq, str_eq_ignore_ascii_case}
use Rattle.sq_tokens.specs.Token.{text_tokens}
use Rattle.sq_tokens.specs.Pattern.{without_good_star, first_bad_star}
use Rattle.sq_lex.specs.declared.class.Class.TheVariants as class
use Rattle.sq_lex.specs.declared.codes.TheConstants.{TOO_LONG, UNCLOSED_STRING, BAD_PARAMETER, OTHER_BOOST, BAD_WORDS, MISSING_VALUE, BAD_STAR}
use Rattle.sq_lex.specs.declared.lexeme.Cut.{Cut}
use Rattle.sq_lex.specs.declared.lexeme.Relation.{Relation}
use Rattle.sq_lex.specs.declared.lexeme.Relation.TheVariants as relation
use Rattle.sq_lex.specs.declared.lexeme.KKind.{KKind}
use Rattle.sq_lex.specs.declared.lexeme.KKind.TheVariants as kind
use Rattle.sq_lex.specs.declared.lexeme.KLexeme.{KLexeme}
use Rattle.sq_lex.specs.declared.word.Word.{Word}
use Rattle.sq_lex.specs.declared.word.Word.TheVariants as word
use Rattle.sq_lex.specs.declared.xrank.Boost.{Boost}
use Rattle.sq_lex.specs.declared.xrank.Boost.TheVariants as boost
use Rattle.sq_lex.specs.contracts.xrank.Boost.{the_type}
use Rattle.sq_lex.specs.declared.xrank.Parameter.{Parameter}
use Rattle.sq_lex.specs.declared.restriction.Head.{Head}
use Rattle.sq_lex.specs.declared.restriction.Bounds.{Bounds}
use denote.Enum.Bare.{sameb}
use Rattle.sq_lex.specs.Bytes.{TextBytes, is_blank, past, digits_value}
use Rattle.sq_lex.specs.Limits.{most_text_bytes, kql_distance}
use Rattle.sq_base.specs.Outcome.{Outcome, refused, ◌>>=◌, ◌>>◌, or_refused}
use Rattle.sq_base.specs.Limits.{greatest_distance, greatest_boost}

-- ---- what a rule takes

-- the lexemes that a rule takes, none where it reads white space, and the place behind them
abbrev pub Taken : Type 0
Taken = List KLexeme × ℕ

abbrev pub lexeme : KKind → ℕ → ℕ → KLexeme
lexeme kind from to = record { kind = kind; from = from; to = to }

abbrev pub one : KKind → ℕ → ℕ → Taken
one kind from to = (lexeme kind from to ∷ [], to)

abbrev pub blank : ℕ → Taken
blank to = ([], to)

abbrev pub cut : ℕ → ℕ → Bool → Cut
cut from to quoted = record { from = from; to = to; quoted = quoted }

abbrev pub cut_text : TextBytes → Cut → TextBytes
cut_text z c = slice_range z c.from c.to

-- the place behind a piece, and behind its closing quote where it is quoted
abbrev pub past_cut : Cut → ℕ
past_cut c = if c.quoted then c.to + 1 else c.to

-- the place where a piece begins, with its opening quote where it is quoted
abbrev pub cut_at : Cut → ℕ
cut_at c = if c.quoted then c.from - 1 else c.from

-- ---- pieces of text

abbrev pub has_some : {X : Type 0} → List X → Bool
has_some [] = false
has_some (x ∷ xs) = true

abbrev pub starless : ℕ → Option ℕ → Bool → Outcome Bool
starless from (Some star) has = refused BAD_STAR (from + star)
starless from None has = Ok has

-- whether a piece has a token; one with a bad star is refused at the first
unfoldable pub judged : TextBytes → Cut → Outcome Bool
judged z c = starless c.from (first_bad_star (cut_text z c)) (has_some (text_tokens (without_good_star (cut_text z c))))

-- free text, from the place where its lexeme begins
unfoldable pub free : TextBytes → ℕ → Cut → Outcome Taken
free z at c = do
  has ← judged z c
  Ok (if has then one (kind.Free c) at (past_cut c) else blank (past_cut c))

-- the text inside the quotes that open at a place
unfoldable pub quoted : TextBytes → ℕ → Outcome Cut
quoted z at = let to = past class.Quoted z (at + 1) in if nat_lt to (length z) then Ok (cut (at + 1) to true) else refused UNCLOSED_STRING at

unfoldable pub phrase : TextBytes → ℕ → Outcome Taken
phrase z at = quoted z at >>= free z at

-- ---- signs

abbrev pub sign : ℕ → KKind
sign b = if b == 43 then kind.Plus else kind.Minus

-- the run of signs ends at the end, at white space or at `)`
abbrev pub ends_idle : TextBytes → ℕ → Bool
ends_idle z to = nat_le (length z) to || is_blank (slice_index z to) || slice_index z to == 41

-- a lexeme for each byte of a run of signs that begins at a place
abbrev pub sign_lexemes : ℕ → TextBytes → List KLexeme
sign_lexemes at [] = []
sign_lexemes at (b ∷ bs) = lexeme (sign b) at (at + 1) ∷ sign_lexemes (at + 1) bs

-- a run of signs before the end, white space or `)` is white space, and else each of its bytes is a sign
unfoldable pub signs : TextBytes → ℕ → Taken
signs z at = let to = past class.Sign z at in if ends_idle z to then blank to else (sign_lexemes at (slice_range z at to), to)

-- ---- numbers

-- the value of one or more digits that is at most the limit
unfoldable pub number : TextBytes → ℕ → ℕ → ℕ → Option ℕ
number z from to limit =
    let value = digits_value (slice_range z from to) in
    if nat_lt from to && (past class.Digit z from == to && nat_le value limit) then Some value else None

-- the value of digits, behind a minus sign or not, that is at most the limit in size
unfoldable pub signed_number : TextBytes → ℕ → ℕ → ℕ → Option ℤ
signed_number z from to limit =
    if slice_index z from == 45 then option_map (λ n. neg_ℤ (pos n)) (number z (from + 1) to limit) else option_map pos (number z from to limit)

-- ---- lists with commas

-- an item of a list, whether more follow, and the place of the comma or `)` behind it
abbrev pub Item : Type 0 → Type 0
Item X = X × Bool × ℕ

-- Whether a comma or `)` stands behind an item that ends at a place, and the place of that; else a fault at the list's word.
unfoldable pub separator : TextBytes → ℕ → ℕ → ℕ → Outcome (Bool × ℕ)
separator z code word to =
    let next = past class.Blank z to in
    if slice_index z next == 44 then Ok (true, next) else (if slice_index z next == 41 then Ok (false, next) else refused code word)

-- The items from a place on, each read by `next`, after those found, and the place of the list's `)`. The number bounds the
-- turns. Each takes a byte, so one more than the text's length is enough.
abbrev pub listed : {X : Type 0} → (ℕ → List X → Outcome (Item X)) → ℕ → ℕ → List X → Outcome (List X × ℕ)
listed next zero at found = Ok (found, at)
listed next (suc turns) at found = do
  x ← next at found
  if x.1 then listed next turns (x.2 + 1) (found ++ x.0 ∷ []) else Ok (found ++ x.0 ∷ [], x.2)

-- ---- NEAR and ONEAR

-- the place of the digits in a list that begins at a place: `n` and `=` may stand before them
unfoldable pub near_digits : TextBytes → ℕ → ℕ
near_digits z at =
    let name = past class.Blank z at in
    let equals = past class.Blank z (name + 1) in
    if slice_index z name == 110 && slice_index z equals == 61 then past class.Blank z (equals + 1) else name

-- the number of a list that begins at a place, and the place behind its `)`; the operator's word begins at `word`
unfoldable pub near_list : TextBytes → ℕ → ℕ → Outcome (ℕ × ℕ)
near_list z word at =
    let from = near_digits z at in
    let to = past class.Digit z from in
    let close = past class.Blank z to in
    if slice_index z close == 41 then (do n ← or_refused (number z from to greatest_distance) BAD_PARAMETER word; Ok (n, close + 1)) else refused BAD_PARAMETER word

abbrev pub near_kind : Bool → ℕ → KKind
near_kind ordered n = if ordered then kind.Onear n else kind.Near n

-- the operator whose word stands from `at` to `to`
unfoldable pub near : TextBytes → Bool → ℕ → ℕ → Outcome Taken
near z ordered at to =
    if slice_index z to == 40 then (do list ← near_list z at (to + 1); Ok (one (near_kind ordered list.0) at list.1))
    else Ok (one (near_kind ordered kql_distance) at to)

-- ---- XRANK

unfoldable pub boost_named : TextBytes → Option Boost
boost_named name =
    if str_eq_ignore_ascii_case name (codes "cb") then Some boost.Cb
    else (if str_eq_ignore_ascii_case name (codes "rb") then Some boost.Rb
    else (if str_eq_ignore_ascii_case name (codes "pb") then Some boost.Pb
    else (if str_eq_ignore_ascii_case name (codes "avgb") then Some boost.Avgb
    else (if str_eq_ignore_ascii_case name (codes "stdb") then Some boost.Stdb
    else (if str_eq_ignore_ascii_case name (codes "nb") then Some boost.Nb
    else (if str_eq_ignore_ascii_case name (codes "n") then Some boost.N else None))))))

abbrev pub is_other : Boost → Bool
is_other boost.Cb = false
is_other boost.N = false
is_other _ = true

-- `==` on names
unfoldable pub same_boost : Boost → Boost → Bool
same_boost = sameb the_type

-- the parameter whose name begins at a place, and the place behind it; the greatest `n` is the greatest size of a boost
unfoldable pub parameter : TextBytes → ℕ → ℕ → Outcome (Parameter × ℕ)
parameter z word at =
    let name_to = past class.Parameter z at in
    let equals = past class.Blank z name_to in
    let from = past class.Blank z (equals + 1) in
    let to = past class.Item z from in
    if slice_index z equals == 61 && nat_lt from to
    then (do
      name ← or_refused (boost_named (slice_range z at name_to)) BAD_PARAMETER word
      Ok (record { boost = name; at = at; signed = signed_number z from to greatest_boost; whole = number z from to greatest_boost }, to))
    else refused BAD_PARAMETER word

-- a name that stands among the parameters found
abbrev pub has_boost : Boost → List Parameter → Bool
has_boost b found = list_any (λ q. same_boost q.boost b) found

-- the next parameter, whose name is new
unfoldable pub next_parameter : TextBytes → ℕ → ℕ → List Parameter → Outcome (Item Parameter)
next_parameter z word at found = do
  p ← parameter z word (past class.Blank z at)
  s ← if has_boost p.0.boost found then refused BAD_PARAMETER word else separator z BAD_PARAMETER word p.1
  Ok (p.0, s.0, s.1)

unfoldable pub parameters : TextBytes → ℕ → ℕ → Outcome (List Parameter × ℕ)
parameters z word at = listed (next_parameter z word) (suc (length z)) at []

abbrev pub signed_of : Option Parameter → Option ℤ
signed_of None = None
signed_of (Some p) = p.signed

abbrev pub is_good_n : Option Parameter → Bool
is_good_n None = true
is_good_n (Some p) = is_some p.whole

abbrev pub no_other : Option Parameter → Outcome (Unit {0})
no_other None = Ok tt
no_other (Some p) = refused OTHER_BOOST p.at

-- the first parameter of a name
abbrev pub parameter_of : Boost → List Parameter → Option Parameter
parameter_of b ps = find (λ p. same_boost p.boost b) ps

-- the constant boost that parameters give
unfoldable pub constant_boost : ℕ → List Parameter → Outcome ℤ
constant_boost word ps = do
  no_other (find (λ p. is_other p.boost) ps)
  cb ← or_refused (signed_of (parameter_of boost.Cb ps)) BAD_PARAMETER word
  if is_good_n (parameter_of boost.N ps) then Ok cb else refused BAD_PARAMETER word

-- the operator whose word stands from `at` to `to`
unfoldable pub xrank : TextBytes → ℕ → ℕ → Outcome Taken
xrank z at to =
    let open_at = past class.Blank z to in
    if slice_index z open_at == 40
    then (do list ← parameters z at (open_at + 1); cb ← constant_boost at list.0; Ok (one (kind.Xrank cb) at (list.1 + 1)))
    else refused BAD_PARAMETER at

-- ---- restrictions

-- the relation that begins with two bytes, the longest, and its length
abbrev pub relation_at : ℕ → ℕ → Option (Relation × ℕ)
relation_at b next =
    if b == 60 then Some (if next == 61 then (relation.AtMost, 2) else (if next == 62 then (relation.Unequal, 2) else (relation.Less, 1)))
    else (if b == 62 then Some (if next == 61 then (relation.AtLeast, 2) else (relation.More, 1))
    else (if b == 58 then Some (relation.Has, 1)
    else (if b == 61 then Some (relation.Equal, 1) else None)))

abbrev pub head_at : ℕ → Option (Relation × ℕ) → Option Head
head_at name_to None = None
head_at name_to (Some r) = Some (record { name_to = name_to; relation = r.0; value_at = name_to + r.1 })

-- a name that begins at a place, followed directly by a relation
unfoldable pub head : TextBytes → ℕ → Option Head
head z at =
    let name_to = past class.Name z at in
    if is_ascii_alphabetic (slice_index z at) then head_at name_to (relation_at (slice_index z name_to) (slice_index z (name_to + 1))) else None

-- the piece of a word between two places, where it is not empty
abbrev pub word_value : ℕ → ℕ → Option Cut
word_value from to = if nat_lt from to then Some (cut from to false) else None

-- the value that begins at a place in a word that ends at `to`: the rest of the word, or else a phrase that follows directly
unfoldable pub value : TextBytes → ℕ → ℕ → Outcome (Option Cut)
value z from to =
    if nat_lt from to then Ok (Some (cut from to false))
    else (if slice_index z from == 34 then (do c ← quoted z from; Ok (Some c)) else Ok None)

-- the place of the first two dots of a piece that begins at a place
abbrev pub dots_from : ℕ → TextBytes → Option ℕ
dots_from at [] = None
dots_from at (b ∷ z) = if b == 46 && slice_index z 0 == 46 then Some at else dots_from (at + 1) z

abbrev pub bounds : Relation → Cut → Option Cut → Bounds
bounds r c upper = record { relation = r; value = c; upper = upper }

-- a range whose lower bound, if there is one, begins at `from`; the upper one begins behind the dots
unfoldable pub range : TextBytes → ℕ → Option Cut → ℕ → ℕ → Outcome Bounds
range z from lower upper_at to = do
  upper ← value z upper_at to
  low ← or_refused lower MISSING_VALUE from
  high ← or_refused upper MISSING_VALUE upper_at
  Ok (bounds relation.Range low (Some high))

-- behind `:`, the values of a word that goes on from `from` to `to`
abbrev pub word_bounds : TextBytes → ℕ → ℕ → Option ℕ → Outcome Bounds
word_bounds z from to None = Ok (bounds relation.Has (cut from to false) None)
word_bounds z from to (Some dots) = range z from (word_value from dots) (dots + 2) to

-- behind `:`, the phrase whose quote opens at a place; it is a lower bound where two dots follow it directly
unfoldable pub phrase_bounds : TextBytes → ℕ → Outcome Bounds
phrase_bounds z at = do
  c ← quoted z at
  let to = past_cut c in
      if slice_index z to == 46 && slice_index z (to + 1) == 46 then range z at (Some c) (to + 2) (past class.Word z to)
      else Ok (bounds relation.Has c None)

abbrev pub one_bound : Relation → ℕ → Option Cut → Outcome Bounds
one_bound r from None = refused MISSING_VALUE from
one_bound r from (Some c) = Ok (bounds r c None)

abbrev pub is_has : Relation → Bool
is_has relation.Has = true
is_has _ = false

-- the values behind a relation, of a word that ends at `to`
unfoldable pub all_bounds : TextBytes → Relation → ℕ → ℕ → Outcome Bounds
all_bounds z r from to =
    if is_has r && nat_lt from to then word_bounds z from to (dots_from from (slice_range z from to))
    else (if is_has r && slice_index z from == 34 then phrase_bounds z from
    else (do c ← value z from to; one_bound r from c))

abbrev pub judged_upper : TextBytes → Option Cut → Outcome (Unit {0})
judged_upper z None = Ok tt
judged_upper z (Some c) = do
  judged z c
  Ok tt

abbrev pub past_upper : Cut → Option Cut → ℕ
past_upper c None = past_cut c
past_upper c (Some upper) = past_cut upper

-- the restriction that begins at `at` with a name and a relation, in a word that ends at `to`
unfoldable pub restriction : TextBytes → ℕ → Head → ℕ → Outcome Taken
restriction z at h to = do
  b ← all_bounds z h.relation h.value_at to
  judged z b.value
  judged_upper z b.upper
  Ok (one (kind.Restrict h.name_to b.relation b.value b.upper) at (past_upper b.value b.upper))

-- ---- WORDS

-- the item that begins at a place of a list
unfoldable pub item : TextBytes → ℕ → ℕ → Outcome Cut
item z word at =
    if slice_index z at == 34 then quoted z at
    else or_refused (word_value at (past class.Item z at)) BAD_WORDS word

-- the next item
unfoldable pub next_item : TextBytes → ℕ → ℕ → List Cut → Outcome (Item Cut)
next_item z word at found = do
  c ← item z word (past class.Blank z at)
  s ← separator z BAD_WORDS word (past_cut c)
  Ok (c, s.0, s.1)

unfoldable pub items : TextBytes → ℕ → ℕ → Outcome (List Cut × ℕ)
items z word at = listed (next_item z word) (suc (length z)) at []

-- an item that would be a restriction
unfoldable pub is_restriction : TextBytes → Cut → Bool
is_restriction z c = not c.quoted && is_some (head z c.from)

abbrev pub is_false : Outcome Bool → Bool
is_false (Ok has) = not has
is_false (Err fault) = false

-- an item with neither a bad star nor a token
unfoldable pub is_tokenless : TextBytes → Cut → Bool
is_tokenless z c = is_false (judged z c)

abbrev pub has_bad_item : TextBytes → List Cut → Bool
has_bad_item z cs = list_any (λ c. is_restriction z c || is_tokenless z c) cs

-- each item as free text; the first bad star is a fault
unfoldable pub free_items : TextBytes → List Cut → Outcome (List KLexeme)
free_items z [] = Ok []
free_items z (c ∷ cs) = do
  judged z c
  rest ← free_items z cs
  Ok (lexeme (kind.Free c) (cut_at c) (past_cut c) ∷ rest)

-- the list whose word begins at `at` and whose `(` ends at `from`
unfoldable pub word_list : TextBytes → ℕ → ℕ → Outcome Taken
word_list z at from = do
  list ← items z at from
  front ← if has_bad_item z list.0 then refused BAD_WORDS at else free_items z list.0
  Ok (lexeme (kind.Words (length list.0)) at from ∷ (front ++ lexeme kind.WordsEnd list.1 (list.1 + 1) ∷ []), list.1 + 1)

unfoldable pub words : TextBytes → ℕ → ℕ → Outcome Taken
words z at to =
    let open_at = past class.Blank z to in
    if slice_index z open_at == 40 then word_list z at (open_at + 1) else refused BAD_WORDS at

-- ---- words

unfoldable pub word_of : TextBytes → Word
word_of w =
    if bytes_eq w (codes "AND") then word.And
    else (if bytes_eq w (codes "OR") then word.Or
    else (if bytes_eq w (codes "NOT") then word.Not
    else (if bytes_eq w (codes "NEAR") then word.Near
    else (if bytes_eq w (codes "ONEAR") then word.Onear
    else (if bytes_eq w (codes "XRANK") then word.Xrank
    else (if bytes_eq w (codes "WORDS") then word.Words
    else (if bytes_eq w (codes "*") then word.Star else word.Other)))))))

-- a word that is a restriction where it has a name and a relation, and else free text
abbrev pub plain : TextBytes → ℕ → ℕ → Option Head → Outcome Taken
plain z at to None = free z at (cut at to false)
plain z at to (Some h) = restriction z at h to

-- the word from `at` to `to`, by what it stands for
abbrev pub word_by : Word → TextBytes → ℕ → ℕ → Outcome Taken
word_by word.And z at to = Ok (one kind.And at to)
word_by word.Or z at to = Ok (one kind.Or at to)
word_by word.Not z at to = Ok (one kind.Not at to)
word_by word.Near z at to = near z false at to
word_by word.Onear z at to = near z true at to
word_by word.Xrank z at to = xrank z at to
word_by word.Words z at to = words z at to
word_by word.Star z at to = Ok (one kind.All at to)
word_by word.Other z at to = plain z at to (head z at)

unfoldable pub whole_word : TextBytes → ℕ → Outcome Taken
whole_word z at = let to = past class.Word z at in word_by (word_of (slice_range z at to)) z at to

-- ---- the text

-- what is taken at a place: the first rule that fits
unfoldable pub taken : TextBytes → ℕ → Outcome Taken
taken z at =
    let b = slice_index z at in
    if is_blank b then Ok (blank (at + 1))
    else (if b == 40 then Ok (one kind.LeftParen at (at + 1))
    else (if b == 41 then Ok (one kind.RightParen at (at + 1))
    else (if b == 34 then phrase z at
    else (if b == 43 || b == 45 then Ok (signs z at) else whole_word z at))))

-- The lexemes from a place on, or the first fault. The number bounds the turns: each takes a byte, so the text's length is enough.
unfoldable pub lexemes_from : ℕ → TextBytes → ℕ → Outcome (List KLexeme)
lexemes_from zero z at = Ok []
lexemes_from (suc turns) z at =
    if nat_lt at (length z) then (do
      front ← taken z at
      rest ← lexemes_from turns z front.1
      Ok (front.0 ++ rest))
    else Ok []

-- the lexemes of a text, or its first fault
unfoldable pub lexemes_of : TextBytes → Outcome (List KLexeme)
lexemes_of z = if nat_lt most_text_bytes (length z) then refused TOO_LONG most_text_bytes else lexemes_from (length z) z 0
