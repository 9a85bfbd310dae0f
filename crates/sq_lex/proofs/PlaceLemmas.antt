-- Lexemes stand one behind the other, and their pieces fill them.
use Rattle.std.proofs.Common.{◌≡◌, ℕ, zero, suc, ◌+◌, ◌-◌, ◌<◌, ◌≤◌, ◌==◌, nat_lt, ◌&&◌, ◌||◌, Bool, true, false, if◌then◌else◌, List, [], ◌∷◌, ◌++◌, length, Option, Some, None, Ok, IfOk, IfSome, refl, length-take, subst, arith}
use Rattle.std.proofs.lemmas.Bool.Decides.{nat_tests}
use Rattle.std.specs.Prelude.{slice_index, slice_range}
use Rattle.std.specs.Char.{is_ascii_alphabetic}
use Rattle.std.specs.List.{AllByRecursion}
use Rattle.sq_lex.specs.declared.class.Class.TheVariants as class
use Rattle.sq_lex.specs.declared.codes.TheConstants.{BAD_PARAMETER, BAD_WORDS, MISSING_VALUE}
use Rattle.sq_lex.specs.declared.lexeme.Cut.{Cut}
use Rattle.sq_lex.specs.declared.lexeme.Relation.{Relation}
use Rattle.sq_lex.specs.declared.lexeme.Relation.TheVariants as relation
use Rattle.sq_lex.specs.declared.lexeme.KKind.{KKind}
use Rattle.sq_lex.specs.declared.lexeme.KKind.TheVariants as kind
use Rattle.sq_lex.specs.declared.lexeme.KLexeme.{KLexeme}
use Rattle.sq_lex.specs.declared.restriction.Head.{Head}
use Rattle.sq_lex.specs.declared.restriction.Bounds.{Bounds}
use Rattle.sq_lex.specs.declared.word.Word.{Word}
use Rattle.sq_lex.specs.declared.word.Word.TheVariants as word
use Rattle.sq_lex.specs.Bytes.{TextBytes, past, is_blank, is_in}
use Rattle.sq_base.specs.Outcome.{refused, or_refused}
use Rattle.sq_lex.specs.Kql.{Taken, lexeme, one, blank, cut, past_cut, judged, free, quoted, phrase, ends_idle, sign_lexemes, signs, number, near_digits, near_list, near_kind, near, constant_boost, parameters, xrank, relation_at, head_at, head, value, dots_from, word_value, range, word_bounds, phrase_bounds, one_bound, is_has, all_bounds, judged_upper, past_upper, bounds, restriction, items, has_bad_item, free_items, word_list, words, word_of, plain, word_by, whole_word, taken, lexemes_from, lexemes_of}
use Rattle.sq_lex.specs.Places.{Fills, UpperFills, IsFilled, StandBetween, AreInPlace}
use Rattle.sq_lex.proofs.SoundLemmas.{each_append}
use Rattle.sq_lex.proofs.OutcomeLemmas.{if_bind, if_test, if_ok, if_each, or_some}
use Rattle.sq_lex.proofs.ItemLemmas.{past_on, past_within, past_moves, byte_within, AreListedParameters, parameters_good, CutsBetween, AreListedItems, items_good}
use Rattle.sq_lex.specs.Limits.{most_text_bytes}

-- ---- lexemes one behind the other

stand_on : (from to : ℕ) (xs : List KLexeme) → StandBetween from to xs → from ≤ to
stand_on from to [] s = s
stand_on from to (x ∷ xs) s = omega (arith, s.0, s.1, stand_on x.to to xs s.2)

stand_earlier : (before from to : ℕ) (xs : List KLexeme) → before ≤ from → StandBetween from to xs → StandBetween before to xs
stand_earlier before from to [] more s = omega (arith, more, s)
stand_earlier before from to (x ∷ xs) more s = (omega (arith, more, s.0), s.1, s.2)

stand_append : (from at to : ℕ) (xs ys : List KLexeme) → StandBetween from at xs → StandBetween at to ys → StandBetween from to (xs ++ ys)
stand_append from at to [] ys s more = stand_earlier from at to ys s more
stand_append from at to (x ∷ xs) ys s more = (s.0, s.1, stand_append x.to at to xs ys s.2 more)

-- what a rule takes stands between its place and the place behind
record IsPlaced (z : TextBytes) (at : ℕ) (t : Taken) : Type 0 where
  pub rising : StandBetween at t.1 t.0
  pub filled : AllByRecursion IsFilled t.0
  pub within : t.1 ≤ length z

one_placed : (z : TextBytes) (k : KKind) (at to : ℕ) → at < to → to ≤ length z → IsFilled (lexeme k at to) → IsPlaced z at (one k at to)
one_placed z k at to moves within filled = record { rising = (omega arith, moves, omega arith); filled = (filled, tt); within = within }

blank_placed : (z : TextBytes) (at to : ℕ) → at ≤ to → to ≤ length z → IsPlaced z at (blank to)
blank_placed z at to on within = record { rising = on; filled = tt; within = within }

-- ---- free text and signs

abbrev IsPieceAt : TextBytes → ℕ → Cut → Type 0
IsPieceAt z at c = Fills at (past_cut c) c × (at < past_cut c) × (past_cut c ≤ length z)

free_by : (z : TextBytes) (at : ℕ) (c : Cut) (has : Bool) → IsPieceAt z at c → IsPlaced z at (if has then one (kind.Free c) at (past_cut c) else blank (past_cut c))
free_by z at c true p = one_placed z (kind.Free c) at (past_cut c) p.1 p.2 p.0
free_by z at c false p = blank_placed z at (past_cut c) (omega (arith, p.1)) p.2

free_placed : (z : TextBytes) (at : ℕ) (c : Cut) → IsPieceAt z at c → IfOk (free z at c) (IsPlaced z at)
unfolding free
free_placed z at c p = if_bind (judged z c) _ (IsPlaced z at) (λ has is. free_by z at c has p)

quoted_piece : (z : TextBytes) (at : ℕ) → IfOk (quoted z at) (IsPieceAt z at)
unfolding quoted
quoted_piece z at =
    let to = past class.Quoted z (at + 1) in
    if_test (nat_lt to (length z)) _ _ (IsPieceAt z at)
    (λ yes. let below : to < length z = grind (arith, nat_tests) in
    let on = past_on class.Quoted z (at + 1) in
    (record { start = refl; ordered = on; end = refl }, omega (arith, on), omega (arith, below)))
    (λ no. tt)

phrase_placed : (z : TextBytes) (at : ℕ) → IfOk (phrase z at) (IsPlaced z at)
unfolding phrase
phrase_placed z at = if_bind (quoted z at) (free z at) (IsPlaced z at) (λ c is. free_placed z at c (if_ok (quoted z at) c (IsPieceAt z at) is (quoted_piece z at)))

sign_stands : (at to : ℕ) (t : Bool) (rest : List KLexeme) → StandBetween (at + 1) to rest → StandBetween at to (lexeme (if t then kind.Plus else kind.Minus) at (at + 1) ∷ rest)
sign_stands at to true rest s = (omega arith, omega arith, s)
sign_stands at to false rest s = (omega arith, omega arith, s)

sign_filled : (at : ℕ) (t : Bool) → IsFilled (lexeme (if t then kind.Plus else kind.Minus) at (at + 1))
sign_filled at true = tt
sign_filled at false = tt

signs_stand : (at to : ℕ) (bs : TextBytes) → length bs + at ≤ to → StandBetween at to (sign_lexemes at bs)
signs_stand at to [] short = omega (arith, short)
signs_stand at to (b ∷ bs) short = sign_stands at to (b == 43) (sign_lexemes (at + 1) bs) (signs_stand (at + 1) to bs (omega (arith, short)))

signs_filled : (at : ℕ) (bs : TextBytes) → AllByRecursion IsFilled (sign_lexemes at bs)
signs_filled at [] = tt
signs_filled at (b ∷ bs) = (sign_filled at (b == 43), signs_filled (at + 1) bs)

part_short : (z : TextBytes) (from to : ℕ) → length (slice_range z from to) ≤ to - from
part_short z from to = simp length-take (omega arith)

signs_by : (z : TextBytes) (t : Bool) (at to : ℕ) (bs : TextBytes) → at ≤ to → to ≤ length z → length bs ≤ to - at → IsPlaced z at (if t then blank to else (sign_lexemes at bs, to))
signs_by z true at to bs on within short = blank_placed z at to on within
signs_by z false at to bs on within short = record { rising = signs_stand at to bs (omega (arith, short, on)); filled = signs_filled at bs; within = within }

signs_placed : (z : TextBytes) (at : ℕ) → at ≤ length z → IsPlaced z at (signs z at)
unfolding signs
signs_placed z at within =
    let to = past class.Sign z at in
    signs_by z (ends_idle z to) at to (slice_range z at to) (past_on class.Sign z at) (past_within class.Sign z at within) (part_short z at to)

-- ---- NEAR and ONEAR

number_at : (t : Bool) (a b c : ℕ) → b ≤ c → a ≤ b → a ≤ (if t then c else b)
number_at true a b c more on = omega (arith, on, more)
number_at false a b c more on = on

digits_on : (z : TextBytes) (at : ℕ) → at ≤ near_digits z at
unfolding near_digits
digits_on z at =
    let name = past class.Blank z at in
    let equals = past class.Blank z (name + 1) in
    number_at (slice_index z name == 110 && slice_index z equals == 61) at name (past class.Blank z (equals + 1))
    (omega (arith, past_on class.Blank z (name + 1), past_on class.Blank z (equals + 1))) (past_on class.Blank z at)

near_list_placed : (z : TextBytes) (word at : ℕ) → IfOk (near_list z word at) (λ l. (at < l.1) × (l.1 ≤ length z))
unfolding near_list
near_list_placed z word at =
    let from = near_digits z at in
    let to = past class.Digit z from in
    let close = past class.Blank z to in
    if_test (slice_index z close == 41) _ _ (λ l. (at < l.1) × (l.1 ≤ length z))
    (λ yes. if_bind (or_refused (number z from to 1000) BAD_PARAMETER word) _ (λ l. (at < l.1) × (l.1 ≤ length z)) (λ n is.
    let inside : close < length z = byte_within z close 41 (omega arith) yes in
    (omega (arith, digits_on z at, past_on class.Digit z from, past_on class.Blank z to), omega (arith, inside))))
    (λ no. tt)

near_filled : (ordered : Bool) (n at to : ℕ) → IsFilled (lexeme (near_kind ordered n) at to)
near_filled true n at to = tt
near_filled false n at to = tt

near_placed : (z : TextBytes) (ordered : Bool) (at to : ℕ) → at < to → to ≤ length z → IfOk (near z ordered at to) (IsPlaced z at)
unfolding near
near_placed z ordered at to moves within =
    if_test (slice_index z to == 40) _ _ (IsPlaced z at)
    (λ yes. if_bind (near_list z at (to + 1)) _ (IsPlaced z at) (λ l is.
    let p = if_ok (near_list z at (to + 1)) l (λ m. (to + 1 < m.1) × (m.1 ≤ length z)) is (near_list_placed z at (to + 1)) in
    one_placed z (near_kind ordered l.0) at l.1 (omega (arith, moves, p.0)) p.1 (near_filled ordered l.0 at l.1)))
    (λ no. one_placed z (near_kind ordered 8) at to moves within (near_filled ordered 8 at to))

-- ---- XRANK

xrank_placed : (z : TextBytes) (at to : ℕ) → at < to → IfOk (xrank z at to) (IsPlaced z at)
unfolding xrank
xrank_placed z at to moves =
    let open_at = past class.Blank z to in
    if_test (slice_index z open_at == 40) _ _ (IsPlaced z at)
    (λ yes. if_bind (parameters z at (open_at + 1)) _ (IsPlaced z at) (λ l is. if_bind (constant_boost at l.0) _ (IsPlaced z at) (λ cb good.
    let inside : open_at < length z = byte_within z open_at 40 (omega arith) yes in
    let all = if_ok (parameters z at (open_at + 1)) l (λ p. AreListedParameters z (open_at + 1) p.1 p.0) is (parameters_good z at (open_at + 1) (omega (arith, inside))) in
    one_placed z (kind.Xrank cb) at (l.1 + 1) (omega (arith, moves, past_on class.Blank z to, all.ordered)) (omega (arith, all.below)) tt)))
    (λ no. tt)

-- ---- restrictions

-- the values that stand from a place on
record AreValues (z : TextBytes) (from : ℕ) (b : Bounds) : Type 0 where
  pub value_to : ℕ
  pub value : Fills from value_to b.value
  pub upper : UpperFills value_to (past_upper b.value b.upper) b.upper
  pub on : from ≤ past_upper b.value b.upper
  pub within : past_upper b.value b.upper ≤ length z

-- a piece from a place on
record IsValue (z : TextBytes) (from : ℕ) (c : Cut) : Type 0 where
  pub fills : Fills from (past_cut c) c
  pub on : from ≤ past_cut c
  pub within : past_cut c ≤ length z

word_is_value : (z : TextBytes) (from to : ℕ) → from ≤ to → to ≤ length z → IsValue z from (cut from to false)
word_is_value z from to ordered within = record { fills = record { start = refl; ordered = ordered; end = refl }; on = ordered; within = within }

quoted_is_value : (z : TextBytes) (at : ℕ) → IfOk (quoted z at) (IsValue z at)
quoted_is_value z at = if_each (quoted z at) (IsPieceAt z at) (IsValue z at) (quoted_piece z at) (λ c p. record { fills = p.0; on = omega (arith, p.1); within = p.2 })

value_is : (z : TextBytes) (from to : ℕ) → to ≤ length z → IfOk (value z from to) (λ v. IfSome v (IsValue z from))
unfolding value
value_is z from to within =
    let Is : Option Cut → Type 0 = λ v. IfSome v (IsValue z from) in
    if_test (nat_lt from to) _ _ Is
    (λ yes. let below : from < to = grind (arith, nat_tests) in word_is_value z from to (omega (arith, below)) within)
    (λ no. if_test (slice_index z from == 34) _ _ Is
    (λ quote. if_bind (quoted z from) _ Is (λ c is. if_ok (quoted z from) c (IsValue z from) is (quoted_is_value z from)))
    (λ none. tt))

some_is : (z : TextBytes) (from : ℕ) (v : Option Cut) (c : Cut) → v ≡ Some c → IfSome v (IsValue z from) → IsValue z from c
some_is z from v c is h = let Of : Option Cut → Type 0 = λ w. IfSome w (IsValue z from) in subst Of is h

one_value : (z : TextBytes) (from : ℕ) (r : Relation) (c : Cut) → IsValue z from c → AreValues z from (bounds r c None)
one_value z from r c v = record { value_to = past_cut c; value = v.fills; upper = refl; on = v.on; within = v.within }

range_values : (z : TextBytes) (from : ℕ) (lower : Option Cut) (upper_at to : ℕ) → to ≤ length z → IfSome lower (λ c. IsValue z from c × (upper_at ≡ past_cut c + 2))
    → IfOk (range z from lower upper_at to) (AreValues z from)
unfolding range
range_values z from lower upper_at to within low_is =
    if_bind (value z upper_at to) _ (AreValues z from) (λ upper a. if_bind (or_refused lower MISSING_VALUE from) _ (AreValues z from) (λ low b.
    if_bind (or_refused upper MISSING_VALUE upper_at) _ (AreValues z from) (λ high c.
    let Low : Option Cut → Type 0 = λ v. IfSome v (λ d. IsValue z from d × (upper_at ≡ past_cut d + 2)) in
    let l : IsValue z from low × (upper_at ≡ past_cut low + 2) = subst Low (or_some lower MISSING_VALUE from low b) low_is in
    let all = if_ok (value z upper_at to) upper (λ v. IfSome v (IsValue z upper_at)) a (value_is z upper_at to within) in
    let h = some_is z upper_at upper high (or_some upper MISSING_VALUE upper_at high c) all in
    let At : ℕ → Type 0 = λ n. Fills n (past_cut high) high in
    record {
      value_to = past_cut low;
      value = l.0.fills;
      upper = subst At l.1 h.fills;
      on = omega (arith, l.0.on, l.1, h.on);
      within = h.within;
    })))

word_low : (z : TextBytes) (t : Bool) (from dots : ℕ) → t ≡ nat_lt from dots → dots ≤ length z → IfSome (if t then Some (cut from dots false) else None) (λ c. IsValue z from c × (dots + 2 ≡ past_cut c + 2))
word_low z true from dots is within = let below : from < dots = grind (arith, nat_tests) in (word_is_value z from dots (omega (arith, below)) within, refl)
word_low z false from dots is within = tt

dots_by : (t : Bool) (at len : ℕ) (rest : Option ℕ) → IfSome rest (λ d. d ≤ at + 1 + len) → IfSome (if t then Some at else rest) (λ d. d ≤ at + suc len)
dots_by true at len rest inside = omega arith
dots_by false at len None inside = tt
dots_by false at len (Some d) inside = omega (arith, inside)

dots_in : (at : ℕ) (bs : TextBytes) → IfSome (dots_from at bs) (λ dots. dots ≤ at + length bs)
dots_in at [] = tt
dots_in at (b ∷ bs) = dots_by (b == 46 && slice_index bs 0 == 46) at (length bs) (dots_from (at + 1) bs) (dots_in (at + 1) bs)

word_values : (z : TextBytes) (from to : ℕ) (dots : Option ℕ) → from ≤ to → to ≤ length z → IfSome dots (λ d. d ≤ length z) → IfOk (word_bounds z from to dots) (AreValues z from)
word_values z from to None ordered within inside = one_value z from relation.Has (cut from to false) (word_is_value z from to ordered within)
word_values z from to (Some dots) ordered within inside = range_values z from (word_value from dots) (dots + 2) to within (word_low z (nat_lt from dots) from dots refl inside)

phrase_values : (z : TextBytes) (at : ℕ) → IfOk (phrase_bounds z at) (AreValues z at)
unfolding phrase_bounds
phrase_values z at =
    if_bind (quoted z at) _ (AreValues z at) (λ c is.
    let v = if_ok (quoted z at) c (IsValue z at) is (quoted_is_value z at) in
    if_test (slice_index z (past_cut c) == 46 && slice_index z (past_cut c + 1) == 46) _ _ (AreValues z at)
    (λ yes. range_values z at (Some c) (past_cut c + 2) (past class.Word z (past_cut c)) (past_within class.Word z (past_cut c) v.within) (v, refl))
    (λ no. one_value z at relation.Has c v))

one_values : (z : TextBytes) (from : ℕ) (r : Relation) (v : Option Cut) → IfSome v (IsValue z from) → IfOk (one_bound r from v) (AreValues z from)
one_values z from r None h = tt
one_values z from r (Some c) h = one_value z from r c h

part_dots : (z : TextBytes) (from to : ℕ) (dots : Option ℕ) → from ≤ to → to ≤ length z → IfSome dots (λ d. d ≤ from + length (slice_range z from to)) → IfSome dots (λ d. d ≤ length z)
part_dots z from to None ordered within inside = tt
part_dots z from to (Some d) ordered within inside = omega (arith, ordered, within, inside, part_short z from to)

second_test : (a : Bool) (from to : ℕ) → (a && nat_lt from to) ≡ true → from < to
second_test true from to is = grind (arith, nat_tests)
second_test false from to is = absurd cc

all_values : (z : TextBytes) (r : Relation) (from to : ℕ) → to ≤ length z → IfOk (all_bounds z r from to) (AreValues z from)
unfolding all_bounds
all_values z r from to within =
    if_test (is_has r && nat_lt from to) _ _ (AreValues z from)
    (λ yes. let below = second_test (is_has r) from to yes in
    word_values z from to (dots_from from (slice_range z from to)) (omega (arith, below)) within
    (part_dots z from to (dots_from from (slice_range z from to)) (omega (arith, below)) within (dots_in from (slice_range z from to))))
    (λ no. if_test (is_has r && slice_index z from == 34) _ _ (AreValues z from) (λ quote. phrase_values z from)
    (λ other. if_bind (value z from to) _ (AreValues z from) (λ v is. one_values z from r v (if_ok (value z from to) v (λ w. IfSome w (IsValue z from)) is (value_is z from to within)))))

-- a name of one byte or more, and a relation behind it
record IsHead (at : ℕ) (h : Head) : Type 0 where
  pub name : at < h.name_to
  pub relation : h.name_to < h.value_at

restriction_placed : (z : TextBytes) (at : ℕ) (h : Head) (to : ℕ) → to ≤ length z → IsHead at h → IfOk (restriction z at h to) (IsPlaced z at)
unfolding restriction
restriction_placed z at h to within i =
    if_bind (all_bounds z h.relation h.value_at to) _ (IsPlaced z at) (λ b is. if_bind (judged z b.value) _ (IsPlaced z at) (λ has good. if_bind (judged_upper z b.upper) _ (IsPlaced z at) (λ done fine.
    let v = if_ok (all_bounds z h.relation h.value_at to) b (AreValues z h.value_at) is (all_values z h.relation h.value_at to within) in
    one_placed z (kind.Restrict h.name_to b.relation b.value b.upper) at (past_upper b.value b.upper) (omega (arith, i.name, i.relation, v.on)) v.within
    (record { value_at = h.value_at; value_to = v.value_to; name = i.name; relation = i.relation; value = v.value; upper_value = v.upper }))))

abbrev IsLong : Option (Relation × ℕ) → Type 0
IsLong r = IfSome r (λ p. 1 ≤ p.1)

relation_by : (a b c d e f g : Bool)
    → IsLong (if a then Some (if b then (relation.AtMost, 2) else (if c then (relation.Unequal, 2) else (relation.Less, 1)))
    else (if d then Some (if e then (relation.AtLeast, 2) else (relation.More, 1)) else (if f then Some (relation.Has, 1) else (if g then Some (relation.Equal, 1) else None))))
relation_by true true c d e f g = omega arith
relation_by true false true d e f g = omega arith
relation_by true false false d e f g = omega arith
relation_by false b c true true f g = omega arith
relation_by false b c true false f g = omega arith
relation_by false b c false e true g = omega arith
relation_by false b c false e false true = omega arith
relation_by false b c false e false false = tt

relation_long : (b next : ℕ) → IsLong (relation_at b next)
relation_long b next = relation_by (b == 60) (next == 61) (next == 62) (b == 62) (next == 61) (b == 58) (b == 61)

head_long : (at name_to : ℕ) (r : Option (Relation × ℕ)) → IsLong r → at < name_to → IfSome (head_at name_to r) (IsHead at)
head_long at name_to None long name = tt
head_long at name_to (Some r) long name = record { name = name; relation = omega (arith, long) }

head_by : (t : Bool) (at : ℕ) (h : Option Head) → (t ≡ true → IfSome h (IsHead at)) → IfSome (if t then h else None) (IsHead at)
head_by true at h is = is refl
head_by false at h is = tt

letter_in_name : (b : ℕ) → is_ascii_alphabetic b ≡ true → is_in class.Name b ≡ true
letter_in_name b is = grind (arith, nat_tests)

head_is : (z : TextBytes) (at : ℕ) → at < length z → IfSome (head z at) (IsHead at)
unfolding head
head_is z at within =
    let name_to = past class.Name z at in
    let r = relation_at (slice_index z name_to) (slice_index z (name_to + 1)) in
    head_by (is_ascii_alphabetic (slice_index z at)) at (head_at name_to r)
    (λ letter. head_long at name_to r (relation_long (slice_index z name_to) (slice_index z (name_to + 1)))
    (past_moves class.Name z at within (letter_in_name (slice_index z at) letter)))

-- ---- WORDS

items_stand : (z : TextBytes) (cs : List Cut) (from to : ℕ) → CutsBetween from to cs → IfOk (free_items z cs) (λ xs. StandBetween from to xs × AllByRecursion IsFilled xs)
unfolding free_items
items_stand z [] from to s = (s, tt)
items_stand z (c ∷ cs) from to s =
    let Stand : List KLexeme → Type 0 = λ xs. StandBetween from to xs × AllByRecursion IsFilled xs in
    let Rest : List KLexeme → Type 0 = λ xs. StandBetween (past_cut c) to xs × AllByRecursion IsFilled xs in
    if_bind (judged z c) _ Stand (λ has is. if_bind (free_items z cs) _ Stand (λ rest read.
    let more = if_ok (free_items z cs) rest Rest read (items_stand z cs (past_cut c) to s.2) in
    ((s.0, s.1.1, more.0), (s.1.0, more.1))))

list_placed : (z : TextBytes) (at from close count : ℕ) (front : List KLexeme) → at < from → close < length z → StandBetween from close front × AllByRecursion IsFilled front
    → IsPlaced z at (lexeme (kind.Words count) at from ∷ (front ++ lexeme kind.WordsEnd close (close + 1) ∷ []), close + 1)
list_placed z at from close count front moves below s =
    let end = lexeme kind.WordsEnd close (close + 1) in
    record {
      rising = (omega arith, moves, stand_append from close (close + 1) front (end ∷ []) s.0 (omega arith, omega arith, omega arith));
      filled = (tt, each_append IsFilled front (end ∷ []) s.1 (tt, tt));
      within = omega (arith, below);
    }

word_list_placed : (z : TextBytes) (at from : ℕ) → at < from → from ≤ length z → IfOk (word_list z at from) (IsPlaced z at)
unfolding word_list
word_list_placed z at from moves within =
    if_bind (items z at from) _ (IsPlaced z at) (λ l is.
    let i = if_ok (items z at from) l (λ p. AreListedItems z from p.1 p.0) is (items_good z at from within) in
    let choice = if has_bad_item z l.0 then refused BAD_WORDS at else free_items z l.0 in
    let Stand : List KLexeme → Type 0 = λ xs. StandBetween from l.1 xs × AllByRecursion IsFilled xs in
    if_bind choice _ (IsPlaced z at) (λ front read.
    list_placed z at from l.1 (length l.0) front moves i.below
    (if_ok choice front Stand read (if_test (has_bad_item z l.0) (refused BAD_WORDS at) (free_items z l.0) Stand (λ bad. tt) (λ good. items_stand z l.0 from l.1 i.rising)))))

words_placed : (z : TextBytes) (at to : ℕ) → at < to → IfOk (words z at to) (IsPlaced z at)
unfolding words
words_placed z at to moves =
    let open_at = past class.Blank z to in
    if_test (slice_index z open_at == 40) _ _ (IsPlaced z at)
    (λ yes. let inside : open_at < length z = byte_within z open_at 40 (omega arith) yes in
    word_list_placed z at (open_at + 1) (omega (arith, moves, past_on class.Blank z to)) (omega (arith, inside)))
    (λ other. tt)

-- ---- words

plain_placed : (z : TextBytes) (at to : ℕ) (o : Option Head) → at < to → to ≤ length z → IfSome o (IsHead at) → IfOk (plain z at to o) (IsPlaced z at)
plain_placed z at to None moves within is = free_placed z at (cut at to false) (record { start = refl; ordered = omega (arith, moves); end = refl }, moves, within)
plain_placed z at to (Some h) moves within is = restriction_placed z at h to within is

word_placed : (w : Word) (z : TextBytes) (at to : ℕ) → at < to → to ≤ length z → IfOk (word_by w z at to) (IsPlaced z at)
word_placed word.And z at to moves within = one_placed z kind.And at to moves within tt
word_placed word.Or z at to moves within = one_placed z kind.Or at to moves within tt
word_placed word.Not z at to moves within = one_placed z kind.Not at to moves within tt
word_placed word.Near z at to moves within = near_placed z false at to moves within
word_placed word.Onear z at to moves within = near_placed z true at to moves within
word_placed word.Xrank z at to moves within = xrank_placed z at to moves
word_placed word.Words z at to moves within = words_placed z at to moves
word_placed word.Star z at to moves within = one_placed z kind.All at to moves within tt
word_placed word.Other z at to moves within = plain_placed z at to (head z at) moves within (head_is z at (omega (arith, moves, within)))

whole_word_placed : (z : TextBytes) (at : ℕ) → at < length z → is_in class.Word (slice_index z at) ≡ true → IfOk (whole_word z at) (IsPlaced z at)
unfolding whole_word
whole_word_placed z at within is =
    let to = past class.Word z at in
    word_placed (word_of (slice_range z at to)) z at to (past_moves class.Word z at within is) (past_within class.Word z at (omega (arith, within)))

-- ---- the text

in_word : (b : ℕ) → is_blank b ≡ false → (b == 40) ≡ false → (b == 41) ≡ false → (b == 34) ≡ false → is_in class.Word b ≡ true
in_word b blank_no open_no close_no quote_no = grind (arith, nat_tests)

taken_placed : (z : TextBytes) (at : ℕ) → at < length z → IfOk (taken z at) (IsPlaced z at)
unfolding taken
taken_placed z at within =
    let b = slice_index z at in
    if_test (is_blank b) _ _ (IsPlaced z at) (λ yes. blank_placed z at (at + 1) (omega arith) (omega (arith, within)))
    (λ n1. if_test (b == 40) _ _ (IsPlaced z at) (λ yes. one_placed z kind.LeftParen at (at + 1) (omega arith) (omega (arith, within)) tt)
    (λ n2. if_test (b == 41) _ _ (IsPlaced z at) (λ yes. one_placed z kind.RightParen at (at + 1) (omega arith) (omega (arith, within)) tt)
    (λ n3. if_test (b == 34) _ _ (IsPlaced z at) (λ yes. phrase_placed z at)
    (λ n4. if_test (b == 43 || b == 45) _ _ (IsPlaced z at) (λ yes. signs_placed z at (omega (arith, within))) (λ n5. whole_word_placed z at within (in_word b n1 n2 n3 n4))))))

record AreFrom (z : TextBytes) (at : ℕ) (xs : List KLexeme) : Type 0 where
  pub rising : StandBetween at (length z) xs
  pub filled : AllByRecursion IsFilled xs

from_placed : (turns : ℕ) (z : TextBytes) (at : ℕ) → at ≤ length z → IfOk (lexemes_from turns z at) (AreFrom z at)
unfolding lexemes_from
from_placed zero z at within = record { rising = within; filled = tt }
from_placed (suc turns) z at within =
    if_test (nat_lt at (length z)) _ _ (AreFrom z at)
    (λ yes. let below : at < length z = grind (arith, nat_tests) in
    if_bind (taken z at) _ (AreFrom z at) (λ front is. if_bind (lexemes_from turns z front.1) _ (AreFrom z at) (λ rest read.
    let f = if_ok (taken z at) front (IsPlaced z at) is (taken_placed z at below) in
    let r = if_ok (lexemes_from turns z front.1) rest (AreFrom z front.1) read (from_placed turns z front.1 f.within) in
    record { rising = stand_append at front.1 (length z) front.0 rest f.rising r.rising; filled = each_append IsFilled front.0 rest f.filled r.filled })))
    (λ end. record { rising = within; filled = tt })

of_placed : (z : TextBytes) → IfOk (lexemes_of z) (AreInPlace z)
unfolding lexemes_of
of_placed z =
    if_test (nat_lt most_text_bytes (length z)) _ _ (AreInPlace z) (λ long. tt)
    (λ no. let short : length z ≤ most_text_bytes = grind (arith, nat_tests) in
    if_each (lexemes_from (length z) z 0) (AreFrom z 0) (AreInPlace z) (from_placed (length z) z 0 (omega arith))
    (λ xs f. record { short = short; rising = f.rising; filled = f.filled }))

pub lexemes_in_place : (z : TextBytes) (xs : List KLexeme) → lexemes_of z ≡ Ok xs → AreInPlace z xs
lexemes_in_place z xs is = if_ok (lexemes_of z) xs (AreInPlace z) is (of_placed z)
