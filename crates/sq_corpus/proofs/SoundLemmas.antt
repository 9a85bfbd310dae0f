-- What holds of the lines before: the rules of a valid corpus, as far as it is read.
use Rattle.std.proofs.Common.{◌≡◌, ◌⊎◌, inl, inr, ℕ, suc, ◌+◌, ◌<◌, ◌≤◌, nat_le, nat_lt, Bool, true, false, cond, not, ◌&&◌, ◌||◌, ◌==◌, List, [], ◌∷◌, ◌++◌, append_assoc, map, filter, length, length-append, refl, ap, sym, subst, ◌∙◌, arith, slice_get, Option, Some, None, option_map, option_to_list, sum_by}
use Rattle.std.specs.List.{list_all, list_any}
use Rattle.std.specs.Str.{bytes_eq}
use Rattle.std.proofs.lemmas.Bool.Decides.{nat_tests}
use Rattle.std.proofs.lemmas.List.{map-append}
use Rattle.std.proofs.lemmas.List.Elements.{filter-append}
use Rattle.std.proofs.lemmas.List.Folds.{list_any-append, list_all-append}
use Rattle.std.proofs.lemmas.List.Sums.{sum_by_push}
use Rattle.sq_schema.specs.declared.property.Property.{Property}
use Rattle.sq_model.specs.declared.corpus.Caller.{Caller}
use Rattle.sq_model.specs.declared.corpus.Item.{Item}
use Rattle.sq_model.specs.declared.corpus.Value.{Value}
use Rattle.sq_schema.specs.Properties.{IsSchema}
use Rattle.sq_model.specs.Valid.{is_caller, is_item, are_rising, are_different, item_bytes, count_of, has_few}
use Rattle.sq_corpus.specs.declared.before.Before.{Before}
use Rattle.sq_corpus.specs.declared.before.Stage.{Stage}
use Rattle.sq_corpus.specs.declared.before.Stage.TheVariants.{Start, InProperties, InCallers, BeforeAllow, BeforeDeny, InValues}
use Rattle.sq_corpus.specs.Lines.{is_named, is_above, items_of}
use Rattle.sq_corpus.proofs.CleanLemmas.{both_true, left_true, right_true}

pub by_le : (a b : ℕ) → nat_le a b ≡ true → a ≤ b
by_le a b e = grind (arith, nat_tests, e)

pub by_not_le : (a b : ℕ) → nat_le a b ≡ false → b < a
by_not_le a b e = grind (arith, nat_tests, e)

pub by_not_lt : (a b : ℕ) → nat_lt a b ≡ false → b ≤ a
by_not_lt a b e = grind (arith, nat_tests, e)

pub le_true : (a b : ℕ) → a ≤ b → nat_le a b ≡ true
le_true a b h = grind (arith, nat_tests, h)

pub lt_true : (a b : ℕ) → a < b → nat_lt a b ≡ true
lt_true a b h = grind (arith, nat_tests, h)

abbrev pub name_of : Caller → List ℕ
name_of caller = caller.name

abbrev pub number_of_item : Item → ℕ
number_of_item item = item.number

-- no item has begun
abbrev pub is_early : Stage → Bool
is_early Start = true
is_early InProperties = true
is_early InCallers = true
is_early BeforeAllow = false
is_early BeforeDeny = false
is_early InValues = false

-- the lines before, of so many bytes, are those of a valid corpus
pub record Sound (before : Before) (read : ℕ) : Type 0 where
  pub schema : IsSchema before.rows
  pub few_callers : length before.callers ≤ 10_000
  pub callers : list_all is_caller before.callers ≡ true
  pub names : are_different (map name_of before.callers) ≡ true
  pub few_items : length (items_of before) ≤ 1_000_000
  pub items : list_all (is_item before.rows) (items_of before) ≡ true
  pub numbers : are_rising (map number_of_item (items_of before)) ≡ true
  pub bytes : sum_by item_bytes (items_of before) ≤ read
  pub early : is_early before.stage ≡ true → before.item ≡ None
  pub begun : before.item ≡ None → before.items ≡ []

-- One caller more.

not_or : (a b : Bool) → not a ≡ true → b ≡ false → not (a || (b || false)) ≡ true
not_or true b p q = p
not_or false true p q = sym q
not_or false false p q = refl

pub left_false : (a b : Bool) → (a || b) ≡ false → a ≡ false
left_false true b p = p
left_false false b p = refl

pub right_false : (a b : Bool) → (a || b) ≡ false → b ≡ false
right_false true b p = cc
right_false false b p = p

absent_more : (text : List ℕ) (callers : List Caller) (caller : Caller) → not (list_any (bytes_eq text) (map name_of callers)) ≡ true
    → bytes_eq text caller.name ≡ false → not (list_any (bytes_eq text) (map name_of (callers ++ caller ∷ []))) ≡ true
absent_more text callers caller absent other =
    let all : map name_of (callers ++ caller ∷ []) ≡ map name_of callers ++ caller.name ∷ [] = map-append name_of callers (caller ∷ []) in
    ap (λ names. not (list_any (bytes_eq text) names)) all
    ∙ ap not (list_any-append (bytes_eq text) (map name_of callers) (caller.name ∷ []))
    ∙ not_or (list_any (bytes_eq text) (map name_of callers)) (bytes_eq text caller.name) absent other

pub different_more : (callers : List Caller) (caller : Caller) → are_different (map name_of callers) ≡ true
    → list_any (is_named caller.name) callers ≡ false → are_different (map name_of (callers ++ caller ∷ [])) ≡ true
unfolding is_named
different_more [] caller different new = refl
different_more (c ∷ callers) caller different new =
    both_true _ _
    (absent_more c.name callers caller (left_true (not (list_any (bytes_eq c.name) (map name_of callers))) _ different)
    (left_false (bytes_eq c.name caller.name) _ new))
    (different_more callers caller (right_true (not (list_any (bytes_eq c.name) (map name_of callers))) _ different)
    (right_false (bytes_eq c.name caller.name) _ new))

-- One item more.

rising_more : (numbers : List ℕ) (last new : ℕ) → are_rising (numbers ++ last ∷ []) ≡ true → nat_lt last new ≡ true
    → are_rising (numbers ++ (last ∷ (new ∷ []))) ≡ true
rising_more [] last new rising above = both_true _ _ above refl
rising_more (a ∷ []) last new rising above = both_true _ _ (left_true (nat_lt a last) _ rising) (both_true _ _ above refl)
rising_more (a ∷ (b ∷ numbers)) last new rising above =
    both_true _ _ (left_true (nat_lt a b) _ rising) (rising_more (b ∷ numbers) last new (right_true (nat_lt a b) _ rising) above)

pub numbers_more : (items : List Item) (o : Option Item) (new : Item) → (o ≡ None → items ≡ [])
    → are_rising (map number_of_item (items ++ option_to_list o)) ≡ true → is_above o new.number ≡ true
    → are_rising (map number_of_item ((items ++ option_to_list o) ++ new ∷ [])) ≡ true
numbers_more items None new begun rising above = ap (λ is. are_rising (map number_of_item ((is ++ []) ++ new ∷ []))) (begun refl)
numbers_more items (Some last) new begun rising above =
    let before : map number_of_item (items ++ last ∷ []) ≡ map number_of_item items ++ last.number ∷ [] = map-append number_of_item items (last ∷ []) in
    let after : map number_of_item ((items ++ last ∷ []) ++ new ∷ []) ≡ map number_of_item items ++ (last.number ∷ (new.number ∷ [])) =
    ap (map number_of_item) (append_assoc items (last ∷ []) (new ∷ [])) ∙ map-append number_of_item items (last ∷ (new ∷ [])) in
    ap are_rising after
    ∙ rising_more (map number_of_item items) last.number new.number (sym (ap are_rising before) ∙ rising) above

-- The item that is read is changed.

module _ (items : List Item) (f : Item → Item) where
  pub few_changed : (o : Option Item) → length (items ++ option_to_list (option_map f o)) ≡ length (items ++ option_to_list o)
  few_changed None = refl
  few_changed (Some item) = length-append items (f item ∷ []) ∙ sym (length-append items (item ∷ []))

  pub items_changed : (good : Item → Bool) (o : Option Item) → ((item : Item) → o ≡ Some item → good item ≡ true → good (f item) ≡ true)
      → list_all good (items ++ option_to_list o) ≡ true → list_all good (items ++ option_to_list (option_map f o)) ≡ true
  items_changed good None keeps all = all
  items_changed good (Some item) keeps all =
      let parts : (list_all good items && (good item && true)) ≡ true = sym (list_all-append good items (item ∷ [])) ∙ all in
      list_all-append good items (f item ∷ [])
      ∙ both_true _ _ (left_true (list_all good items) _ parts)
      (both_true _ _ (keeps item refl (left_true (good item) true (right_true (list_all good items) _ parts))) refl)

  pub numbers_changed : (o : Option Item) → ((item : Item) → (f item).number ≡ item.number)
      → map number_of_item (items ++ option_to_list (option_map f o)) ≡ map number_of_item (items ++ option_to_list o)
  numbers_changed None keeps = refl
  numbers_changed (Some item) keeps =
      map-append number_of_item items (f item ∷ [])
      ∙ ap (λ n. map number_of_item items ++ n ∷ []) (keeps item)
      ∙ sym (map-append number_of_item items (item ∷ []))

  pub bytes_changed : (m : ℕ) (o : Option Item) → ((item : Item) → item_bytes (f item) ≤ item_bytes item + m)
      → sum_by item_bytes (items ++ option_to_list (option_map f o)) ≤ sum_by item_bytes (items ++ option_to_list o) + m
  bytes_changed m None more = omega arith
  bytes_changed m (Some item) more =
      omega (arith, more item, sum_by_push item_bytes items (f item), sum_by_push item_bytes items item)

pub none_mapped : (f : Item → Item) (o : Option Item) → option_map f o ≡ None → o ≡ None
none_mapped f None e = refl
none_mapped f (Some item) e = cc

-- what a line makes of the item that is read
pub changed : (before : Before) (stage : Stage) (f : Item → Item) (n m : ℕ) → Sound before n → (is_early stage ≡ true → before.item ≡ None)
    → ((item : Item) → (f item).number ≡ item.number)
    → ((item : Item) → before.item ≡ Some item → is_item before.rows item ≡ true → is_item before.rows (f item) ≡ true)
    → ((item : Item) → item_bytes (f item) ≤ item_bytes item + m)
    → Sound (record before { stage = stage; item = option_map f before.item }) (n + m)
changed before stage f n m sound none keeps good more = record {
  schema = sound.schema;
  few_callers = sound.few_callers;
  callers = sound.callers;
  names = sound.names;
  few_items = omega (arith, few_changed before.items f before.item, sound.few_items);
  items = items_changed before.items f (is_item before.rows) before.item good sound.items;
  numbers = ap are_rising (numbers_changed before.items f before.item keeps) ∙ sound.numbers;
  bytes = omega (arith, bytes_changed before.items f m before.item more, sound.bytes);
  early = λ e. ap (option_map f) (none e);
  begun = λ e. sound.begun (none_mapped f before.item e);
}

-- One value more.

one_of : (t : Bool) (value : Value) → length (cond t (value ∷ []) []) ≡ cond t 1 0
one_of true value = refl
one_of false value = refl

pub count_more : (values : List Value) (value : Value) (at : ℕ)
    → count_of (values ++ value ∷ []) at ≡ count_of values at + cond (value.property == at) 1 0
count_more values value at =
    ap length (filter-append (λ v. v.property == at) values (value ∷ []))
    ∙ length-append (filter (λ v. v.property == at) values) (filter (λ v. v.property == at) (value ∷ []))
    ∙ ap (λ k. count_of values at + k) (one_of (value.property == at) value)

-- a value more fits where there are few, and where one alone may stand, there is none
abbrev pub Room : List Value → Property → ℕ → Type 0
Room values row property = (count_of values property < 1_000) × ((row.multi ≡ true) ⊎ (count_of values property ≡ 0))

multi_more : (multi : Bool) (count : ℕ) → (multi ≡ true) ⊎ (count ≡ 0) → (multi || nat_le (count + 1) 1) ≡ true
multi_more true count room = refl
multi_more false count (inl e) = cc
multi_more false count (inr e) = le_true (count + 1) 1 (omega (arith, e))

few_at : (t : Bool) (multi : Bool) (count more : ℕ) → more ≡ count + cond t 1 0 → (nat_le count 1_000 && (multi || nat_le count 1)) ≡ true
    → (t ≡ true → (count < 1_000) × ((multi ≡ true) ⊎ (count ≡ 0))) → (nat_le more 1_000 && (multi || nat_le more 1)) ≡ true
few_at false multi count more is few room =
    let same : count ≡ more = omega (arith, is) in subst (λ k. (nat_le k 1_000 && (multi || nat_le k 1)) ≡ true) same few
few_at true multi count more is few room =
    let next : count + 1 ≡ more = sym is in
    subst (λ k. (nat_le k 1_000 && (multi || nat_le k 1)) ≡ true) next
    (both_true _ _ (le_true (count + 1) 1_000 (omega (arith, (room refl).0))) (multi_more multi count (room refl).1))

pub few_more : (values : List Value) (value : Value) (at : ℕ) (rows : List Property) → has_few values at rows ≡ true
    → ((k : ℕ) (row : Property) → slice_get rows k ≡ Some row → at + k ≡ value.property → Room values row value.property)
    → has_few (values ++ value ∷ []) at rows ≡ true
few_more values value at [] few room = refl
few_more values value at (row ∷ rows) few room =
    let here = left_true (nat_le (count_of values at) 1_000 && (row.multi || nat_le (count_of values at) 1)) (has_few values (at + 1) rows) few in
    let there = right_true (nat_le (count_of values at) 1_000 && (row.multi || nat_le (count_of values at) 1)) (has_few values (at + 1) rows) few in
    let fits : (value.property == at) ≡ true → Room values row at = λ e.
    let is : value.property ≡ at = grind (arith, nat_tests, e) in
    subst (Room values row) is (room 0 row refl (omega (arith, is))) in
    both_true _ _ (few_at (value.property == at) row.multi (count_of values at) _ (count_more values value at) here fits)
    (few_more values value (at + 1) rows there (λ k other e is. room (suc k) other e (omega (arith, is))))

pub few_none : (at : ℕ) (rows : List Property) → has_few [] at rows ≡ true
few_none at [] = refl
few_none at (row ∷ rows) = both_true _ _ (or_true row.multi) (few_none (at + 1) rows)
  where
    or_true : (t : Bool) → (t || true) ≡ true
    or_true true = refl
    or_true false = refl
