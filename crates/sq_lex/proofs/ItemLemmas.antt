-- Runs of bytes, numbers, and lists with commas: where they end, and what their items keep to.
use Rattle.std.proofs.Common.{◌≡◌, ℕ, zero, suc, ◌+◌, ◌<◌, ◌≤◌, ◌==◌, nat_lt, nat_le, ◌&&◌, Bool, true, false, if◌then◌else◌, ℤ, List, [], ◌∷◌, ◌++◌, length, drop, get_or, Option, Some, None, IfOk, IfSome, refl, subst, length-append, length-drop, arith}
use Rattle.std.proofs.lemmas.Bool.Decides.{nat_tests}
use Rattle.std.proofs.lemmas.List.Sums.{prefix_len-le-length, prefix_len-drop_yes}
use Rattle.std.proofs.Math.ListN.{get_or-eq_default}
use Rattle.std.specs.Prelude.{pos, neg_ℤ, unsigned_abs, slice_index, slice_range, find}
use Rattle.std.specs.Option.{option_map}
use Rattle.std.specs.List.{AllByRecursion, prefix_len}
use Rattle.sq_lex.specs.declared.class.Class.{Class}
use Rattle.sq_lex.specs.declared.class.Class.TheVariants as class
use Rattle.sq_lex.specs.declared.codes.TheConstants.{BAD_PARAMETER, BAD_WORDS}
use Rattle.sq_lex.specs.declared.lexeme.Cut.{Cut}
use Rattle.sq_lex.specs.declared.xrank.Boost.TheVariants as boost
use Rattle.sq_lex.specs.declared.xrank.Parameter.{Parameter}
use Rattle.sq_lex.specs.Bytes.{TextBytes, is_in, past, digits_value}
use Rattle.sq_base.specs.Outcome.{Outcome, refused, or_refused}
use Rattle.sq_base.specs.Limits.{greatest_boost}
use Rattle.sq_lex.specs.Kql.{Item, cut, past_cut, cut_at, quoted, number, signed_number, separator, listed, boost_named, parameter, has_boost, next_parameter, parameters, signed_of, parameter_of, is_other, no_other, is_good_n, same_boost, constant_boost, word_value, item, next_item, items}
use Rattle.sq_lex.specs.Places.{Fills}
use Rattle.sq_lex.proofs.PieceLemmas.{pieces_push}
use Rattle.sq_lex.proofs.OutcomeLemmas.{if_bind, if_test, if_ok, if_each, if_value, or_some}

-- ---- runs of bytes

pub past_on : (c : Class) (z : TextBytes) (at : ℕ) → at ≤ past c z at
unfolding past
past_on c z at = omega arith

pub past_within : (c : Class) (z : TextBytes) (at : ℕ) → at ≤ length z → past c z at ≤ length z
unfolding past
past_within c z at within =
    let room : prefix_len (is_in c) (drop at z) ≤ length (drop at z) = prefix_len-le-length (is_in c) (drop at z) in
    omega (arith, room, length-drop at z, within)

pub past_moves : (c : Class) (z : TextBytes) (at : ℕ) → at < length z → is_in c (slice_index z at) ≡ true → at < past c z at
unfolding past
past_moves c z at within is = omega (arith, prefix_len-drop_yes (is_in c) z at 0 within is)

by_byte : (z : TextBytes) (at b : ℕ) → 0 < b → get_or z at 0 ≡ b → at < length z
by_byte z at b some is = grind (arith, get_or-eq_default)

pub byte_within : (z : TextBytes) (at b : ℕ) → 0 < b → (slice_index z at == b) ≡ true → at < length z
byte_within z at b some is = let e : get_or z at 0 ≡ b = grind (arith, nat_tests) in by_byte z at b some e

-- ---- numbers

within_limit : (t : Bool) (value limit n : ℕ) → t ≡ nat_le value limit → (if t then Some value else None) ≡ Some n → n ≤ limit
within_limit true value limit n is h = let same : value ≡ n = cc in let below : value ≤ limit = grind (arith, nat_tests) in omega (arith, same, below)
within_limit false value limit n is h = absurd cc

number_by : (a b : Bool) (value limit n : ℕ) → (if a && (b && nat_le value limit) then Some value else None) ≡ Some n → n ≤ limit
number_by true true value limit n h = within_limit (nat_le value limit) value limit n refl h
number_by true false value limit n h = absurd cc
number_by false b value limit n h = absurd cc

pub number_within : (z : TextBytes) (from to limit n : ℕ) → number z from to limit ≡ Some n → n ≤ limit
unfolding number
number_within z from to limit n h = number_by (nat_lt from to) (past class.Digit z from == to) (digits_value (slice_range z from to)) limit n h

-- at most the limit in size, if there is a number
abbrev pub IsLimited : ℕ → Option ℤ → Type 0
IsLimited limit o = IfSome o (λ n. unsigned_abs n ≤ limit)

limited_map : (o : Option ℕ) (f : ℕ → ℤ) (limit : ℕ) → ((n : ℕ) → unsigned_abs (f n) ≡ n) → ((n : ℕ) → o ≡ Some n → n ≤ limit) → IsLimited limit (option_map f o)
limited_map None f limit size within = tt
limited_map (Some n) f limit size within = omega (arith, size n, within n refl)

limited_by : (t : Bool) (a b : Option ℤ) (limit : ℕ) → IsLimited limit a → IsLimited limit b → IsLimited limit (if t then a else b)
limited_by true a b limit first second = first
limited_by false a b limit first second = second

size_of_negative : (n : ℕ) → unsigned_abs (neg_ℤ (pos n)) ≡ n
size_of_negative zero = refl
size_of_negative (suc n) = refl

signed_within : (z : TextBytes) (from to limit : ℕ) → IsLimited limit (signed_number z from to limit)
unfolding signed_number
signed_within z from to limit =
    limited_by (slice_index z from == 45) (option_map (λ n. neg_ℤ (pos n)) (number z (from + 1) to limit)) (option_map pos (number z from to limit)) limit
    (limited_map (number z (from + 1) to limit) (λ n. neg_ℤ (pos n)) limit size_of_negative (number_within z (from + 1) to limit))
    (limited_map (number z from to limit) pos limit (λ n. refl) (number_within z from to limit))

-- ---- lists with commas

abbrev IsSeparated : TextBytes → ℕ → Bool × ℕ → Type 0
IsSeparated z to s = (to ≤ s.1) × (s.1 < length z)

pub separated : (z : TextBytes) (code word to : ℕ) → IfOk (separator z code word to) (IsSeparated z to)
unfolding separator
separated z code word to =
    let next = past class.Blank z to in
    if_test (slice_index z next == 44) _ _ (IsSeparated z to) (λ comma. (past_on class.Blank z to, byte_within z next 44 (omega arith) comma))
    (λ other. if_test (slice_index z next == 41) _ _ (IsSeparated z to) (λ close. (past_on class.Blank z to, byte_within z next 41 (omega arith) close)) (λ none. tt))

-- What holds behind each item and is kept by a comma holds of the whole list.
pub listed_all : {X : Type 0} (next : ℕ → List X → Outcome (Item X)) (size : ℕ) (P Q : ℕ → List X → Type 0)
    → ((at : ℕ) (found : List X) → Q at found → IfOk (next at found) (λ x. (at ≤ x.2) × P x.2 (found ++ x.0 ∷ [])))
    → ((at : ℕ) (found : List X) → P at found → Q (at + 1) found)
    → ((at : ℕ) (found : List X) → Q at found → at ≤ size)
    → (turns at : ℕ) (found : List X) → size < turns + at → Q at found → IfOk (listed next turns at found) (λ l. P l.1 l.0)
listed_all next size P Q step more short zero at found enough begun = absurd (omega (arith, enough, short at found begun))
listed_all next size P Q step more short (suc turns) at found enough begun =
    if_bind (next at found) _ (λ l. P l.1 l.0) (λ x is.
    let s = if_ok (next at found) x (λ y. (at ≤ y.2) × P y.2 (found ++ y.0 ∷ [])) is (step at found begun) in
    if_test x.1 _ _ (λ l. P l.1 l.0)
    (λ comma. listed_all next size P Q step more short turns (x.2 + 1) (found ++ x.0 ∷ []) (omega (arith, enough, s.0)) (more x.2 (found ++ x.0 ∷ []) s.1))
    (λ close. s.1))

-- ---- the parameters of XRANK

abbrev IsGoodParameter : Parameter → Type 0
IsGoodParameter p = IsLimited greatest_boost p.signed

abbrev IsParameter : ℕ → Parameter × ℕ → Type 0
IsParameter at p = (at ≤ p.1) × IsGoodParameter p.0

parameter_good : (z : TextBytes) (word at : ℕ) → IfOk (parameter z word at) (IsParameter at)
unfolding parameter
parameter_good z word at =
    let name_to = past class.Parameter z at in
    let equals = past class.Blank z name_to in
    let from = past class.Blank z (equals + 1) in
    let to = past class.Item z from in
    if_test (slice_index z equals == 61 && nat_lt from to) _ _ (IsParameter at)
    (λ yes. if_bind (or_refused (boost_named (slice_range z at name_to)) BAD_PARAMETER word) _ (IsParameter at) (λ name is.
    (omega (arith, past_on class.Parameter z at, past_on class.Blank z name_to, past_on class.Blank z (equals + 1), past_on class.Item z from), signed_within z from to greatest_boost)))
    (λ no. tt)

abbrev IsNextParameter : TextBytes → ℕ → Item Parameter → Type 0
IsNextParameter z at x = (at ≤ x.2) × (x.2 < length z) × IsGoodParameter x.0

next_good : (z : TextBytes) (word at : ℕ) (found : List Parameter) → IfOk (next_parameter z word at found) (IsNextParameter z at)
unfolding next_parameter
next_good z word at found =
    let begin = past class.Blank z at in
    if_bind (parameter z word begin) _ (IsNextParameter z at) (λ p is.
    let good = if_ok (parameter z word begin) p (IsParameter begin) is (parameter_good z word begin) in
    let choice = if has_boost p.0.boost found then refused BAD_PARAMETER word else separator z BAD_PARAMETER word p.1 in
    if_bind choice _ (IsNextParameter z at) (λ s behind.
    let place = if_ok choice s (IsSeparated z p.1) behind
    (if_test (has_boost p.0.boost found) (refused BAD_PARAMETER word) (separator z BAD_PARAMETER word p.1) (IsSeparated z p.1) (λ twice. tt) (λ once. separated z BAD_PARAMETER word p.1)) in
    (omega (arith, past_on class.Blank z at, good.0, place.0), place.1, good.1)))

-- the parameters up to a place in the text
pub record AreParameters (z : TextBytes) (from to : ℕ) (ps : List Parameter) : Type 0 where
  pub ordered : from ≤ to
  pub within : to ≤ length z
  pub good : AllByRecursion IsGoodParameter ps

-- the same, with the place of a byte
pub record AreListedParameters (z : TextBytes) (from to : ℕ) (ps : List Parameter) : Type 0 where
  pub ordered : from ≤ to
  pub below : to < length z
  pub good : AllByRecursion IsGoodParameter ps

pub parameters_good : (z : TextBytes) (word at : ℕ) → at ≤ length z → IfOk (parameters z word at) (λ l. AreListedParameters z at l.1 l.0)
unfolding parameters
parameters_good z word at within =
    listed_all (next_parameter z word) (length z) (AreListedParameters z at) (AreParameters z at)
    (λ to found q. let Now : Item Parameter → Type 0 = λ x. (to ≤ x.2) × AreListedParameters z at x.2 (found ++ x.0 ∷ []) in
    if_each (next_parameter z word to found) (IsNextParameter z to) Now (next_good z word to found)
    (λ x n. (n.0, record { ordered = omega (arith, q.ordered, n.0); below = n.1; good = pieces_push IsGoodParameter found (found ++ x.0 ∷ []) x.0 q.good n.2 refl })))
    (λ to found p. record { ordered = omega (arith, p.ordered); within = omega (arith, p.below); good = p.good })
    (λ to found q. q.within)
    (suc (length z)) at [] (omega arith) (record { ordered = omega arith; within = within; good = tt })

found_by : (P : Parameter → Type 0) (t : Bool) (p : Parameter) (o : Option Parameter) → P p → IfSome o P → IfSome (if t then Some p else o) P
found_by P true p o first rest = first
found_by P false p o first rest = rest

find_good : (P : Parameter → Type 0) (f : Parameter → Bool) (ps : List Parameter) → AllByRecursion P ps → IfSome (find f ps) P
find_good P f [] each = tt
find_good P f (p ∷ ps) each = found_by P (f p) p (find f ps) each.0 (find_good P f ps each.1)

signed_limited : (o : Option Parameter) → IfSome o IsGoodParameter → IsLimited greatest_boost (signed_of o)
signed_limited None good = tt
signed_limited (Some p) good = good

limited_some : (o : Option ℤ) (limit : ℕ) (n : ℤ) → o ≡ Some n → IsLimited limit o → unsigned_abs n ≤ limit
limited_some o limit n is h = let Of : Option ℤ → Type 0 = λ p. IsLimited limit p in subst Of is h

pub constant_within : (word : ℕ) (ps : List Parameter) → AllByRecursion IsGoodParameter ps → IfOk (constant_boost word ps) (λ cb. unsigned_abs cb ≤ greatest_boost)
unfolding constant_boost
constant_within word ps good =
    let Within : ℤ → Type 0 = λ cb. unsigned_abs cb ≤ greatest_boost in
    let chosen = parameter_of boost.Cb ps in
    if_bind (no_other (find (λ p. is_other p.boost) ps)) _ Within (λ done none. if_bind (or_refused (signed_of chosen) BAD_PARAMETER word) _ Within (λ cb is.
    if_test (is_good_n (parameter_of boost.N ps)) _ _ Within
    (λ yes. limited_some (signed_of chosen) greatest_boost cb (or_some (signed_of chosen) BAD_PARAMETER word cb is)
    (signed_limited chosen (find_good IsGoodParameter (λ p. same_boost p.boost boost.Cb) ps good)))
    (λ no. tt)))

-- ---- the items of WORDS

-- a piece that is not empty, with its quotes
abbrev pub IsItem : Cut → Type 0
IsItem c = Fills (cut_at c) (past_cut c) c × (cut_at c < past_cut c)

-- pieces that stand one behind the other between two places
abbrev pub CutsBetween : ℕ → ℕ → List Cut → Type 0
CutsBetween from to [] = from ≤ to
CutsBetween from to (c ∷ cs) = (from ≤ cut_at c) × IsItem c × CutsBetween (past_cut c) to cs

quoted_item : (at to : ℕ) → at + 1 ≤ to → (at ≤ cut_at (cut (at + 1) to true)) × IsItem (cut (at + 1) to true)
quoted_item at to ordered = (omega arith, (record { start = omega arith; ordered = ordered; end = refl }, omega (arith, ordered)))

word_item : (t : Bool) (at to : ℕ) (c : Cut) → t ≡ nat_lt at to → (if t then Some (cut at to false) else None) ≡ Some c → (at ≤ cut_at c) × IsItem c
word_item true at to c is h =
    let below : at < to = grind (arith, nat_tests) in
    let same : cut at to false ≡ c = cc in
    let Of : Cut → Type 0 = λ d. (at ≤ cut_at d) × IsItem d in
    subst Of same (omega arith, (record { start = refl; ordered = omega (arith, below); end = refl }, below))
word_item false at to c is h = absurd cc

abbrev IsItemAt : ℕ → Cut → Type 0
IsItemAt at c = (at ≤ cut_at c) × IsItem c

quoted_good : (z : TextBytes) (at : ℕ) → IfOk (quoted z at) (IsItemAt at)
unfolding quoted
quoted_good z at =
    let to = past class.Quoted z (at + 1) in
    if_test (nat_lt to (length z)) _ _ (IsItemAt at) (λ yes. quoted_item at to (past_on class.Quoted z (at + 1))) (λ no. tt)

item_good : (z : TextBytes) (word at : ℕ) → IfOk (item z word at) (IsItemAt at)
unfolding item
item_good z word at =
    if_test (slice_index z at == 34) _ _ (IsItemAt at)
    (λ yes. quoted_good z at)
    (λ no. if_value (word_value at (past class.Item z at)) BAD_WORDS word (IsItemAt at) (λ c is. word_item (nat_lt at (past class.Item z at)) at (past class.Item z at) c refl is))

abbrev IsNextItem : TextBytes → ℕ → Item Cut → Type 0
IsNextItem z at x = (at ≤ cut_at x.0) × IsItem x.0 × (past_cut x.0 ≤ x.2) × (x.2 < length z)

next_item_good : (z : TextBytes) (word at : ℕ) (found : List Cut) → IfOk (next_item z word at found) (IsNextItem z at)
unfolding next_item
next_item_good z word at found =
    let begin = past class.Blank z at in
    if_bind (item z word begin) _ (IsNextItem z at) (λ c is.
    let good = if_ok (item z word begin) c (IsItemAt begin) is (item_good z word begin) in
    if_bind (separator z BAD_WORDS word (past_cut c)) _ (IsNextItem z at) (λ s behind.
    let place = if_ok (separator z BAD_WORDS word (past_cut c)) s (IsSeparated z (past_cut c)) behind (separated z BAD_WORDS word (past_cut c)) in
    (omega (arith, past_on class.Blank z at, good.0), good.1, place.0, place.1)))

cuts_push : (from at to : ℕ) (cs : List Cut) (c : Cut) → CutsBetween from at cs → at ≤ cut_at c → IsItem c → past_cut c ≤ to → CutsBetween from to (cs ++ c ∷ [])
cuts_push from at to [] c all begins one ends = (omega (arith, all, begins), one, ends)
cuts_push from at to (d ∷ cs) c all begins one ends = (all.0, all.1, cuts_push (past_cut d) at to cs c all.2 begins one ends)

cuts_later : (from at to : ℕ) (cs : List Cut) → CutsBetween from at cs → at ≤ to → CutsBetween from to cs
cuts_later from at to [] all more = omega (arith, all, more)
cuts_later from at to (c ∷ cs) all more = (all.0, all.1, cuts_later (past_cut c) at to cs all.2 more)

record AreFound (z : TextBytes) (from to : ℕ) (cs : List Cut) : Type 0 where
  pub rising : CutsBetween from to cs
  pub within : to ≤ length z

-- the items of a list, and the place of the byte behind
pub record AreListedItems (z : TextBytes) (from to : ℕ) (cs : List Cut) : Type 0 where
  pub rising : CutsBetween from to cs
  pub below : to < length z
  pub some : 1 ≤ length cs

pub items_good : (z : TextBytes) (word at : ℕ) → at ≤ length z → IfOk (items z word at) (λ l. AreListedItems z at l.1 l.0)
unfolding items
items_good z word at within =
    listed_all (next_item z word) (length z) (AreListedItems z at) (AreFound z at)
    (λ to found q. let Now : Item Cut → Type 0 = λ x. (to ≤ x.2) × AreListedItems z at x.2 (found ++ x.0 ∷ []) in
    if_each (next_item z word to found) (IsNextItem z to) Now (next_item_good z word to found)
    (λ x n. (
      omega (arith, n.0, n.1.1, n.2),
      record {
        rising = cuts_push at to x.2 found x.0 q.rising n.0 n.1 n.2;
        below = n.3;
        some = omega (arith, length-append found (x.0 ∷ []));
      },
    )))
    (λ to found p. record { rising = cuts_later at to (to + 1) found p.rising (omega arith); within = omega (arith, p.below) })
    (λ to found q. q.within)
    (suc (length z)) at [] (omega arith) (record { rising = omega arith; within = within })
