-- The lexemes of a text are whole and keep their limits.
use Rattle.std.proofs.Common.{◌≡◌, ℕ, zero, suc, ◌+◌, ◌≤◌, ◌<◌, ◌==◌, nat_lt, ◌&&◌, ◌||◌, Bool, true, false, if◌then◌else◌, List, [], ◌∷◌, ◌++◌, length, Option, Some, None, Ok, Err, IfOk, IfSome, refl, sym, subst, ap, ◌∙◌, append_assoc, arith}
use Rattle.std.specs.Prelude.{unsigned_abs, is_some, slice_index, slice_range}
use Rattle.std.specs.Char.{is_ascii_alphabetic}
use Rattle.std.specs.List.{AllByRecursion}
use Rattle.sq_lex.specs.declared.class.Class.TheVariants as class
use Rattle.sq_lex.specs.declared.codes.TheConstants.{BAD_PARAMETER, BAD_WORDS, MISSING_VALUE}
use Rattle.sq_lex.specs.declared.lexeme.Cut.{Cut}
use Rattle.sq_lex.specs.declared.lexeme.Relation.{Relation}
use Rattle.sq_lex.specs.declared.lexeme.Relation.TheVariants as relation
use Rattle.sq_lex.specs.declared.lexeme.KKind.{KKind}
use Rattle.sq_lex.specs.declared.lexeme.KKind.TheVariants as kind
use Rattle.sq_lex.specs.declared.lexeme.KLexeme.{KLexeme}
use Rattle.sq_lex.specs.declared.restriction.Head.{Head}
use Rattle.sq_lex.specs.declared.restriction.Bounds.{Bounds}
use Rattle.sq_lex.specs.declared.word.Word.{Word}
use Rattle.sq_lex.specs.declared.word.Word.TheVariants as word
use Rattle.sq_lex.specs.Bytes.{TextBytes, past, is_blank}
use Rattle.sq_base.specs.Outcome.{Outcome, refused, ◌>>◌, or_refused}
use Rattle.sq_base.specs.Limits.{greatest_boost}
use Rattle.sq_lex.specs.Kql.{Taken, lexeme, one, blank, cut, past_cut, judged, free, quoted, phrase, ends_idle, sign_lexemes, signs, number, near_digits, near_list, near_kind, near, constant_boost, parameters, xrank, relation_at, head_at, head, value, dots_from, word_value, range, word_bounds, phrase_bounds, one_bound, is_has, all_bounds, judged_upper, past_upper, restriction, items, is_restriction, is_false, is_tokenless, has_bad_item, free_items, word_list, words, word_of, plain, word_by, whole_word, taken, lexemes_from, lexemes_of}
use Rattle.sq_lex.proofs.OutcomeLemmas.{if_bind, if_test, if_ok, or_some}
use Rattle.sq_lex.proofs.ItemLemmas.{number_within, byte_within, AreListedParameters, parameters_good, constant_within, AreListedItems, items_good}
use Rattle.sq_lex.specs.Shape.{is_single, IsFree, AreListed, nothing, single, list, is_range, IsStarless, IsSound, IsSoundLexeme}
use Rattle.sq_lex.specs.Limits.{most_text_bytes}

-- ---- lexemes

pub record AreSound (z : TextBytes) (xs : List KLexeme) : Type 0 where
  pub listed : AreListed xs
  pub sound : AllByRecursion (IsSoundLexeme z) xs

abbrev IsTaken : TextBytes → Taken → Type 0
IsTaken z t = AreSound z t.0

listed_append : (xs : List KLexeme) → AreListed xs → (ys : List KLexeme) → AreListed ys → AreListed (xs ++ ys)
listed_append _ nothing ys more = more
listed_append _ (single x xs alone rest) ys more = single x (xs ++ ys) alone (listed_append xs rest ys more)
listed_append _ (list x y items xs is free end rest) ys more =
    let Of : List KLexeme → Type 0 = λ l. AreListed (x ∷ l) in
    subst Of (sym (append_assoc items (y ∷ xs) ys)) (list x y items (xs ++ ys) is free end (listed_append xs rest ys more))

pub each_append : {X : Type 0} (P : X → Type 0) (xs ys : List X) → AllByRecursion P xs → AllByRecursion P ys → AllByRecursion P (xs ++ ys)
each_append P [] ys a b = b
each_append P (x ∷ xs) ys a b = (a.0, each_append P xs ys a.1 b)

sound_append : (z : TextBytes) (xs ys : List KLexeme) → AreSound z xs → AreSound z ys → AreSound z (xs ++ ys)
sound_append z xs ys a b = record { listed = listed_append xs a.listed ys b.listed; sound = each_append (IsSoundLexeme z) xs ys a.sound b.sound }

none_sound : (z : TextBytes) → AreSound z []
none_sound z = record { listed = nothing; sound = tt }

one_sound : (z : TextBytes) (k : KKind) (from to : ℕ) → is_single k ≡ true → IsSound z k → AreSound z (lexeme k from to ∷ [])
one_sound z k from to alone sound = record { listed = single (lexeme k from to) [] alone nothing; sound = (sound, tt) }

-- ---- free text and signs

free_by : (z : TextBytes) (at to : ℕ) (c : Cut) (has : Bool) → judged z c ≡ Ok has → IsTaken z (if has then one (kind.Free c) at to else blank to)
free_by z at to c true is = one_sound z (kind.Free c) at to refl is
free_by z at to c false is = none_sound z

free_sound : (z : TextBytes) (at : ℕ) (c : Cut) → IfOk (free z at c) (IsTaken z)
unfolding free
free_sound z at c = if_bind (judged z c) _ (IsTaken z) (λ has is. free_by z at (past_cut c) c has is)

phrase_sound : (z : TextBytes) (at : ℕ) → IfOk (phrase z at) (IsTaken z)
unfolding phrase
phrase_sound z at = if_bind (quoted z at) (free z at) (IsTaken z) (λ c is. free_sound z at c)

sign_by : (z : TextBytes) (at : ℕ) (t : Bool) (rest : List KLexeme) → AreSound z rest → AreSound z (lexeme (if t then kind.Plus else kind.Minus) at (at + 1) ∷ rest)
sign_by z at true rest s = sound_append z (lexeme kind.Plus at (at + 1) ∷ []) rest (one_sound z kind.Plus at (at + 1) refl tt) s
sign_by z at false rest s = sound_append z (lexeme kind.Minus at (at + 1) ∷ []) rest (one_sound z kind.Minus at (at + 1) refl tt) s

run_sound : (z : TextBytes) (at : ℕ) (bs : TextBytes) → AreSound z (sign_lexemes at bs)
run_sound z at [] = none_sound z
run_sound z at (b ∷ bs) = sign_by z at (b == 43) (sign_lexemes (at + 1) bs) (run_sound z (at + 1) bs)

signs_by : (z : TextBytes) (t : Bool) (at to : ℕ) (bs : TextBytes) → IsTaken z (if t then blank to else (sign_lexemes at bs, to))
signs_by z true at to bs = none_sound z
signs_by z false at to bs = run_sound z at bs

signs_sound : (z : TextBytes) (at : ℕ) → IsTaken z (signs z at)
unfolding signs
signs_sound z at = signs_by z (ends_idle z (past class.Sign z at)) at (past class.Sign z at) (slice_range z at (past class.Sign z at))

-- ---- NEAR and ONEAR

near_kind_sound : (z : TextBytes) (ordered : Bool) (n from to : ℕ) → n ≤ 1000 → AreSound z (lexeme (near_kind ordered n) from to ∷ [])
near_kind_sound z true n from to within = one_sound z (kind.Onear n) from to refl within
near_kind_sound z false n from to within = one_sound z (kind.Near n) from to refl within

near_list_within : (z : TextBytes) (word at : ℕ) → IfOk (near_list z word at) (λ l. l.0 ≤ 1000)
unfolding near_list
near_list_within z word at =
    let from = near_digits z at in
    let to = past class.Digit z from in
    if_test (slice_index z (past class.Blank z to) == 41) _ _ (λ l. l.0 ≤ 1000)
    (λ yes. if_bind (or_refused (number z from to 1000) BAD_PARAMETER word) _ (λ l. l.0 ≤ 1000) (λ n is. number_within z from to 1000 n (or_some (number z from to 1000) BAD_PARAMETER word n is)))
    (λ no. tt)

near_sound : (z : TextBytes) (ordered : Bool) (at to : ℕ) → IfOk (near z ordered at to) (IsTaken z)
unfolding near
near_sound z ordered at to =
    if_test (slice_index z to == 40) _ _ (IsTaken z)
    (λ yes. if_bind (near_list z at (to + 1)) _ (IsTaken z) (λ l is. near_kind_sound z ordered l.0 at l.1 (if_ok (near_list z at (to + 1)) l (λ p. p.0 ≤ 1000) is (near_list_within z at (to + 1)))))
    (λ no. near_kind_sound z ordered 8 at to (omega arith))

-- ---- XRANK

xrank_sound : (z : TextBytes) (at to : ℕ) → IfOk (xrank z at to) (IsTaken z)
unfolding xrank
xrank_sound z at to =
    let open_at = past class.Blank z to in
    if_test (slice_index z open_at == 40) _ _ (IsTaken z)
    (λ yes. if_bind (parameters z at (open_at + 1)) _ (IsTaken z) (λ l is. if_bind (constant_boost at l.0) _ (IsTaken z) (λ cb good.
    let inside : open_at < length z = byte_within z open_at 40 (omega arith) yes in
    let all = if_ok (parameters z at (open_at + 1)) l (λ p. AreListedParameters z (open_at + 1) p.1 p.0) is (parameters_good z at (open_at + 1) (omega (arith, inside))) in
    one_sound z (kind.Xrank cb) at (l.1 + 1) refl (if_ok (constant_boost at l.0) cb (λ n. unsigned_abs n ≤ greatest_boost) good (constant_within at l.0 all.good)))))
    (λ no. tt)

-- ---- restrictions

-- a range and no other relation has an upper value
abbrev AreBounds : Bounds → Type 0
AreBounds b = is_some b.upper ≡ is_range b.relation

range_bounds : (z : TextBytes) (from : ℕ) (lower : Option Cut) (upper_at to : ℕ) → IfOk (range z from lower upper_at to) AreBounds
unfolding range
range_bounds z from lower upper_at to =
    if_bind (value z upper_at to) _ AreBounds (λ upper a. if_bind (or_refused lower MISSING_VALUE from) _ AreBounds (λ low b. if_bind (or_refused upper MISSING_VALUE upper_at) _ AreBounds (λ high c. refl)))

word_are_bounds : (z : TextBytes) (from to : ℕ) (dots : Option ℕ) → IfOk (word_bounds z from to dots) AreBounds
word_are_bounds z from to None = refl
word_are_bounds z from to (Some dots) = range_bounds z from (word_value from dots) (dots + 2) to

phrase_are_bounds : (z : TextBytes) (at : ℕ) → IfOk (phrase_bounds z at) AreBounds
unfolding phrase_bounds
phrase_are_bounds z at =
    if_bind (quoted z at) _ AreBounds (λ c is. if_test (slice_index z (past_cut c) == 46 && slice_index z (past_cut c + 1) == 46) _ _ AreBounds
    (λ yes. range_bounds z at (Some c) (past_cut c + 2) (past class.Word z (past_cut c))) (λ no. refl))

one_are_bounds : (r : Relation) (from : ℕ) (c : Option Cut) → is_range r ≡ false → IfOk (one_bound r from c) AreBounds
one_are_bounds r from None plain_relation = tt
one_are_bounds r from (Some c) plain_relation = sym plain_relation

all_are_bounds : (z : TextBytes) (r : Relation) (from to : ℕ) → is_range r ≡ false → IfOk (all_bounds z r from to) AreBounds
unfolding all_bounds
all_are_bounds z r from to plain_relation =
    if_test (is_has r && nat_lt from to) _ _ AreBounds (λ yes. word_are_bounds z from to (dots_from from (slice_range z from to)))
    (λ no. if_test (is_has r && slice_index z from == 34) _ _ AreBounds (λ yes. phrase_are_bounds z from)
    (λ no. if_bind (value z from to) _ AreBounds (λ c is. one_are_bounds r from c plain_relation)))

abbrev done : Outcome (Unit {0})
done = Ok tt

starless_of : (o : Outcome Bool) → (o >> done) ≡ done → (has : Bool) × (o ≡ Ok has)
starless_of (Ok has) e = (has, refl)
starless_of (Err fault) e = absurd cc

upper_starless : (z : TextBytes) (upper : Option Cut) → judged_upper z upper ≡ done → IfSome upper (IsStarless z)
upper_starless z None h = tt
upper_starless z (Some c) h = starless_of (judged z c) h

restriction_sound : (z : TextBytes) (at : ℕ) (h : Head) (to : ℕ) → is_range h.relation ≡ false → IfOk (restriction z at h to) (IsTaken z)
unfolding restriction
restriction_sound z at h to plain_relation =
    if_bind (all_bounds z h.relation h.value_at to) _ (IsTaken z) (λ b is. if_bind (judged z b.value) _ (IsTaken z) (λ has good. if_bind (judged_upper z b.upper) _ (IsTaken z)
    (λ done fine. one_sound z (kind.Restrict h.name_to b.relation b.value b.upper) at (past_upper b.value b.upper) refl
    ((has, good), upper_starless z b.upper fine, if_ok (all_bounds z h.relation h.value_at to) b AreBounds is (all_are_bounds z h.relation h.value_at to plain_relation)))))

-- ---- WORDS

or_false : (a b : Bool) → (a || b) ≡ false → (a ≡ false) × (b ≡ false)
or_false true b h = absurd cc
or_false false b h = (refl, h)

not_false : (o : Outcome Bool) (has : Bool) → o ≡ Ok has → is_false o ≡ false → o ≡ Ok true
not_false (Ok true) has is h = refl
not_false (Ok false) has is h = absurd cc
not_false (Err fault) has is h = absurd cc

record AreItems (z : TextBytes) (count : ℕ) (front : List KLexeme) : Type 0 where
  pub size : length front ≡ count
  pub free_ones : AllByRecursion IsFree front
  pub sound : AllByRecursion (IsSoundLexeme z) front

token_of : (z : TextBytes) (c : Cut) (has : Bool) → judged z c ≡ Ok has → is_tokenless z c ≡ false → judged z c ≡ Ok true
unfolding is_tokenless
token_of z c has is h = not_false (judged z c) has is h

items_sound : (z : TextBytes) (cs : List Cut) → has_bad_item z cs ≡ false → IfOk (free_items z cs) (AreItems z (length cs))
unfolding free_items
items_sound z [] good = record { size = refl; free_ones = tt; sound = tt }
items_sound z (c ∷ cs) good =
    let both = or_false (is_restriction z c || is_tokenless z c) (has_bad_item z cs) good in
    let one_of = or_false (is_restriction z c) (is_tokenless z c) both.0 in
    if_bind (judged z c) _ (AreItems z (suc (length cs))) (λ has is. if_bind (free_items z cs) _ (AreItems z (suc (length cs))) (λ rest read.
    let more = if_ok (free_items z cs) rest (AreItems z (length cs)) read (items_sound z cs both.1) in
    record { size = ap suc more.size; free_ones = ((c, refl), more.free_ones); sound = (token_of z c has is one_of.1, more.sound) }))

list_sound : (z : TextBytes) (at from close count : ℕ) (front : List KLexeme) → AreItems z count front → 1 ≤ count
    → AreSound z (lexeme (kind.Words count) at from ∷ (front ++ lexeme kind.WordsEnd close (close + 1) ∷ []))
list_sound z at from close count front i some =
    let end = lexeme kind.WordsEnd close (close + 1) in
    record {
      listed = list (lexeme (kind.Words count) at from) end front [] (ap kind.Words (sym i.size)) i.free_ones refl nothing;
      sound = (some, each_append (IsSoundLexeme z) front (end ∷ []) i.sound (tt, tt));
    }

word_list_sound : (z : TextBytes) (at from : ℕ) → from ≤ length z → IfOk (word_list z at from) (IsTaken z)
unfolding word_list
word_list_sound z at from within =
    if_bind (items z at from) _ (IsTaken z) (λ l is. if_bind (if has_bad_item z l.0 then refused BAD_WORDS at else free_items z l.0) _ (IsTaken z) (λ front read.
    list_sound z at from l.1 (length l.0) front
    (if_ok (if has_bad_item z l.0 then refused BAD_WORDS at else free_items z l.0) front (AreItems z (length l.0)) read
    (if_test (has_bad_item z l.0) (refused BAD_WORDS at) (free_items z l.0) (AreItems z (length l.0)) (λ bad. tt) (λ good. items_sound z l.0 good)))
    (if_ok (items z at from) l (λ p. AreListedItems z from p.1 p.0) is (items_good z at from within)).some))

words_sound : (z : TextBytes) (at to : ℕ) → IfOk (words z at to) (IsTaken z)
unfolding words
words_sound z at to =
    let open_at = past class.Blank z to in
    if_test (slice_index z open_at == 40) _ _ (IsTaken z)
    (λ yes. let inside : open_at < length z = byte_within z open_at 40 (omega arith) yes in word_list_sound z at (open_at + 1) (omega (arith, inside)))
    (λ other. tt)

-- ---- words

abbrev IsPlainRelation : Option (Relation × ℕ) → Type 0
IsPlainRelation r = IfSome r (λ p. is_range p.0 ≡ false)

relation_by : (a b c d e f g : Bool)
    → IsPlainRelation (if a then Some (if b then (relation.AtMost, 2) else (if c then (relation.Unequal, 2) else (relation.Less, 1)))
    else (if d then Some (if e then (relation.AtLeast, 2) else (relation.More, 1)) else (if f then Some (relation.Has, 1) else (if g then Some (relation.Equal, 1) else None))))
relation_by true true c d e f g = refl
relation_by true false true d e f g = refl
relation_by true false false d e f g = refl
relation_by false b c true true f g = refl
relation_by false b c true false f g = refl
relation_by false b c false e true g = refl
relation_by false b c false e false true = refl
relation_by false b c false e false false = tt

relation_plain : (b next : ℕ) → IsPlainRelation (relation_at b next)
relation_plain b next = relation_by (b == 60) (next == 61) (next == 62) (b == 62) (next == 61) (b == 58) (b == 61)

-- a relation where there is none is another
abbrev relation_of : Option Head → Relation
relation_of None = relation.Has
relation_of (Some h) = h.relation

head_at_plain : (name_to : ℕ) (r : Option (Relation × ℕ)) (h : Head) → IsPlainRelation r → head_at name_to r ≡ Some h → is_range h.relation ≡ false
head_at_plain name_to None h plain_relation is = absurd cc
head_at_plain name_to (Some r) h plain_relation is =
    let same : r.0 ≡ h.relation = ap (λ (o : Option Head). relation_of o) is in sym (ap is_range same) ∙ plain_relation

head_by : (t : Bool) (name_to : ℕ) (r : Option (Relation × ℕ)) (h : Head) → IsPlainRelation r → (if t then head_at name_to r else None) ≡ Some h → is_range h.relation ≡ false
head_by true name_to r h plain_relation is = head_at_plain name_to r h plain_relation is
head_by false name_to r h plain_relation is = absurd cc

head_plain : (z : TextBytes) (at : ℕ) (h : Head) → head z at ≡ Some h → is_range h.relation ≡ false
unfolding head
head_plain z at h is =
    let name_to = past class.Name z at in
    head_by (is_ascii_alphabetic (slice_index z at)) name_to (relation_at (slice_index z name_to) (slice_index z (name_to + 1))) h (relation_plain (slice_index z name_to) (slice_index z (name_to + 1))) is

plain_sound : (z : TextBytes) (at to : ℕ) (o : Option Head) → ((h : Head) → o ≡ Some h → is_range h.relation ≡ false) → IfOk (plain z at to o) (IsTaken z)
plain_sound z at to None plain_relation = free_sound z at (cut at to false)
plain_sound z at to (Some h) plain_relation = restriction_sound z at h to (plain_relation h refl)

word_sound : (w : Word) (z : TextBytes) (at to : ℕ) → IfOk (word_by w z at to) (IsTaken z)
word_sound word.And z at to = one_sound z kind.And at to refl tt
word_sound word.Or z at to = one_sound z kind.Or at to refl tt
word_sound word.Not z at to = one_sound z kind.Not at to refl tt
word_sound word.Near z at to = near_sound z false at to
word_sound word.Onear z at to = near_sound z true at to
word_sound word.Xrank z at to = xrank_sound z at to
word_sound word.Words z at to = words_sound z at to
word_sound word.Star z at to = one_sound z kind.All at to refl tt
word_sound word.Other z at to = plain_sound z at to (head z at) (head_plain z at)

whole_word_sound : (z : TextBytes) (at : ℕ) → IfOk (whole_word z at) (IsTaken z)
unfolding whole_word
whole_word_sound z at = word_sound (word_of (slice_range z at (past class.Word z at))) z at (past class.Word z at)

-- ---- the text

taken_sound : (z : TextBytes) (at : ℕ) → IfOk (taken z at) (IsTaken z)
unfolding taken
taken_sound z at =
    let b = slice_index z at in
    if_test (is_blank b) _ _ (IsTaken z) (λ yes. none_sound z)
    (λ n1. if_test (b == 40) _ _ (IsTaken z) (λ yes. one_sound z kind.LeftParen at (at + 1) refl tt)
    (λ n2. if_test (b == 41) _ _ (IsTaken z) (λ yes. one_sound z kind.RightParen at (at + 1) refl tt)
    (λ n3. if_test (b == 34) _ _ (IsTaken z) (λ yes. phrase_sound z at)
    (λ n4. if_test (b == 43 || b == 45) _ _ (IsTaken z) (λ yes. signs_sound z at) (λ n5. whole_word_sound z at)))))

from_sound : (turns : ℕ) (z : TextBytes) (at : ℕ) → IfOk (lexemes_from turns z at) (AreSound z)
unfolding lexemes_from
from_sound zero z at = none_sound z
from_sound (suc turns) z at =
    if_test (nat_lt at (length z)) _ _ (AreSound z) (λ yes. if_bind (taken z at) _ (AreSound z) (λ front is. if_bind (lexemes_from turns z front.1) _ (AreSound z)
    (λ rest read. sound_append z front.0 rest (if_ok (taken z at) front (IsTaken z) is (taken_sound z at)) (if_ok (lexemes_from turns z front.1) rest (AreSound z) read (from_sound turns z front.1)))))
    (λ end. none_sound z)

of_sound : (z : TextBytes) → IfOk (lexemes_of z) (AreSound z)
unfolding lexemes_of
of_sound z = if_test (nat_lt most_text_bytes (length z)) _ _ (AreSound z) (λ long. tt) (λ short. from_sound (length z) z 0)

pub lexemes_sound : (z : TextBytes) (xs : List KLexeme) → lexemes_of z ≡ Ok xs → AreListed xs × AllByRecursion (IsSoundLexeme z) xs
lexemes_sound z xs is = let s = if_ok (lexemes_of z) xs (AreSound z) is (of_sound z) in (s.listed, s.sound)
