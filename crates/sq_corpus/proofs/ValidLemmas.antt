-- A corpus that a text spells is valid.
use Rattle.std.proofs.Common.{◌≡◌, ◌⊎◌, inl, inr, ℕ, ◌+◌, ◌<◌, ◌≤◌, nat_le, nat_lt, Bool, true, false, cond, not, ◌&&◌, List, [], ◌∷◌, ◌++◌, length, length-append, refl, ap, sym, subst, ◌∙◌, arith, position, slice_get, Option, Some, None, option_to_list, Result, Ok, Err, IfOk, ℤ, pos, neg_ℤ}
use Rattle.std.specs.List.{list_all}
use Rattle.std.specs.Str.{is_utf8}
use Rattle.std.proofs.lemmas.List.Folds.{list_all-append}
use Rattle.std.proofs.lemmas.List.Sums.{sum_by_push}
use Rattle.sq_base.specs.Xml.{is_xml_text}
use Rattle.sq_schema.specs.declared.property.Kind.{Kind}
use Rattle.sq_schema.specs.declared.property.Property.{Property}
use Rattle.sq_schema.specs.Laws.{DatesLieInYears}
use Rattle.sq_schema.specs.Properties.{is_sound, has_name}
use Rattle.sq_model.specs.declared.corpus.Caller.{Caller}
use Rattle.sq_model.specs.declared.corpus.Content.{Content}
use Rattle.sq_model.specs.declared.corpus.Corpus.{Corpus}
use Rattle.sq_model.specs.declared.corpus.Item.{Item}
use Rattle.sq_model.specs.declared.corpus.Value.{Value}
use Rattle.sq_model.specs.Laws.{ValidTextsAreShort}
use Rattle.sq_model.specs.Valid.{is_name, is_text, is_claim_list, is_from_to, is_value, is_caller, count_of, has_few, is_item, content_bytes, item_bytes, has_short_texts, IsValid}
use Rattle.sq_corpus.specs.declared.before.Before.{Before}
use Rattle.sq_corpus.specs.declared.before.Stage.{Stage}
use Rattle.sq_corpus.specs.declared.before.Stage.TheVariants.{Start, InProperties, InCallers, BeforeAllow, BeforeDeny, InValues}
use Rattle.sq_corpus.specs.declared.words.Flags.{Flags}
use Rattle.sq_corpus.specs.declared.words.LineKind.{LineKind}
use Rattle.sq_corpus.specs.declared.words.LineKind.TheVariants.{Heading, PropertyRow, CallerRow, ItemHead, AllowList, DenyList, ValueRow, Unknown}
use Rattle.sq_corpus.specs.CorpusText.{LineFault, faulty, nothing_before, may_end, corpus_after, at_end, corpus_from, corpus_of}
use Rattle.sq_corpus.specs.Escapes.{text_of}
use Rattle.sq_corpus.specs.Lines.{may_stand, row_of, with_row, with_property, caller_of, with_caller, item_number, rank_of, is_above, item_of, items_of, with_url, with_item, list_fault, allowing, denying, if_faultless, allowed, denied, with_allow, with_deny, content_of, values_of, value_of, holding, held, with_content, with_value_of, with_value, with_known, with_fields, at_most_607, with_text, with_line}
use Rattle.sq_corpus.specs.Pieces.{fields_of, lines_of}
use Rattle.sq_corpus.specs.declared.fault.CorpusFault.{CorpusFault}
use Rattle.sq_corpus.specs.Laws.{SpelledCorporaAreValid}
use Rattle.sq_corpus.specs.Reads.{IsAnswer, Reads}
use Rattle.sq_corpus.specs.Words.{line_kind, kind_of, flags_of}
use Rattle.sq_corpus.proofs.CleanLemmas.{AllClean, Clean, both_true, left_true, right_true, clean_line, clean_fields, total, total_pieces, sum_total}
use Rattle.sq_corpus.proofs.ContentLemmas.{ItemNumber, number_in, rank_in, GoodContent, content_good, text_good}
use Rattle.sq_corpus.proofs.FineLemmas.{fine_text}
use Rattle.sq_corpus.proofs.LineLemmas.{after_line, step-end}
use Rattle.sq_corpus.proofs.SchemaLemmas as schemas
use Rattle.sq_corpus.proofs.SoundLemmas.{Sound, Room, by_not_le, by_not_lt, le_true, is_early, different_more, numbers_more, changed, few_more, few_none}

never : false ≡ true → ⊥
never e = cc

something : (item : Item) → Some item ≡ None → ⊥
something item e = cc

not_false : (t : Bool) → not t ≡ false → t ≡ true
not_false true e = refl
not_false false e = cc

-- What tests say, where a line is taken.

one : (a : ℕ) (s : Bool) (x after : Before) → cond s (Err a) (Ok x) ≡ Ok after → (s ≡ false) × (x ≡ after)
one a true x after e = cc
one a false x after e = let is : x ≡ after = cc in (refl, is)

two : (a b : ℕ) (s t : Bool) (x after : Before) → cond s (Err a) (cond t (Err b) (Ok x)) ≡ Ok after → (s ≡ false) × (t ≡ false) × (x ≡ after)
two a b true t x after e = cc
two a b false true x after e = cc
two a b false false x after e = let is : x ≡ after = cc in (refl, refl, is)

three : (a b c : ℕ) (s t u : Bool) (x after : Before) → cond s (Err a) (cond t (Err b) (cond u (Err c) (Ok x))) ≡ Ok after
    → (s ≡ false) × (t ≡ false) × (u ≡ false) × (x ≡ after)
three a b c true t u x after e = cc
three a b c false true u x after e = cc
three a b c false false true x after e = cc
three a b c false false false x after e = let is : x ≡ after = cc in (refl, refl, refl, is)

then_taken : (a : ℕ) (t : Bool) (r : Result Before ℕ) (after : Before) → cond t r (Err a) ≡ Ok after → (t ≡ true) × (r ≡ Ok after)
then_taken a true r after e = (refl, e)
then_taken a false r after e = cc

faultless : (a b : ℕ) (s t : Bool) (x after : Before) → if_faultless (cond s (Some a) (cond t (Some b) None)) x ≡ Ok after
    → (s ≡ false) × (t ≡ false) × (x ≡ after)
faultless a b true t x after e = cc
faultless a b false true x after e = cc
faultless a b false false x after e = let is : x ≡ after = cc in (refl, refl, is)

clean_at : (t : Bool) (r : Result Before ℕ) (after : Before) → cond t r (at_most_607 r) ≡ Ok after → (t ≡ true) × (r ≡ Ok after)
clean_at true r after e = (refl, e)
clean_at false (Ok x) after e = cc
clean_at false (Err code) after e = cc

sound_along : (x after : Before) (n : ℕ) → x ≡ after → Sound x n → Sound after n
sound_along x after n is sound = let P : Before → Type 0 = λ b. Sound b n in subst P is sound

no_items : (items : List Item) (o : Option Item) → o ≡ None → items ≡ [] → items ++ option_to_list o ≡ []
no_items items None none e = ap (λ is. is ++ []) e
no_items items (Some item) none e = cc

-- The parts of an item.

pub record Parts (rows : List Property) (item : Item) : Type 0 where
  pub low : nat_le 1 item.number ≡ true
  pub high : nat_le item.number 4_294_967_294 ≡ true
  pub rank : is_from_to (neg_ℤ (pos 1_000_000_000)) (pos 1_000_000_000) item.rank ≡ true
  pub url : is_text item.url ≡ true
  pub allow : is_claim_list item.allow ≡ true
  pub deny : is_claim_list item.deny ≡ true
  pub values : list_all (is_value rows) item.values ≡ true
  pub few : has_few item.values 0 rows ≡ true

record Eight (a b c d e f g h : Bool) : Type 0 where
  first : a ≡ true
  second : b ≡ true
  third : c ≡ true
  fourth : d ≡ true
  fifth : e ≡ true
  sixth : f ≡ true
  seventh : g ≡ true
  eighth : h ≡ true

eight : (a b c d e f g h : Bool) → (a && b && c && d && e && f && g && h) ≡ true → Eight a b c d e f g h
eight a b c d e f g h p =
    let p7 = left_true (a && b && c && d && e && f && g) h p in
    let p6 = left_true (a && b && c && d && e && f) g p7 in
    let p5 = left_true (a && b && c && d && e) f p6 in
    let p4 = left_true (a && b && c && d) e p5 in
    let p3 = left_true (a && b && c) d p4 in
    let p2 = left_true (a && b) c p3 in
    record {
      first = left_true a b p2;
      second = right_true a b p2;
      third = right_true (a && b) c p3;
      fourth = right_true (a && b && c) d p4;
      fifth = right_true (a && b && c && d) e p5;
      sixth = right_true (a && b && c && d && e) f p6;
      seventh = right_true (a && b && c && d && e && f) g p7;
      eighth = right_true (a && b && c && d && e && f && g) h p;
    }

all_eight : (a b c d e f g h : Bool) → Eight a b c d e f g h → (a && b && c && d && e && f && g && h) ≡ true
all_eight a b c d e f g h p =
    both_true (a && b && c && d && e && f && g) h
    (both_true (a && b && c && d && e && f) g
    (both_true (a && b && c && d && e) f
    (both_true (a && b && c && d) e (both_true (a && b && c) d (both_true (a && b) c (both_true a b p.first p.second) p.third) p.fourth) p.fifth)
    p.sixth)
    p.seventh)
    p.eighth

pub parts : (rows : List Property) (item : Item) → is_item rows item ≡ true → Parts rows item
parts rows item p =
    let q = eight (nat_le 1 item.number) (nat_le item.number 4_294_967_294)
    (is_from_to (neg_ℤ (pos 1_000_000_000)) (pos 1_000_000_000) item.rank) (is_text item.url) (is_claim_list item.allow)
    (is_claim_list item.deny) (list_all (is_value rows) item.values) (has_few item.values 0 rows) p in
    record { low = q.first; high = q.second; rank = q.third; url = q.fourth; allow = q.fifth; deny = q.sixth; values = q.seventh; few = q.eighth }

whole : (rows : List Property) (item : Item) → Parts rows item → is_item rows item ≡ true
whole rows item p =
    all_eight (nat_le 1 item.number) (nat_le item.number 4_294_967_294)
    (is_from_to (neg_ℤ (pos 1_000_000_000)) (pos 1_000_000_000) item.rank) (is_text item.url) (is_claim_list item.allow)
    (is_claim_list item.deny) (list_all (is_value rows) item.values) (has_few item.values 0 rows)
    (record { first = p.low; second = p.high; third = p.rank; fourth = p.url; fifth = p.allow; sixth = p.deny; seventh = p.values; eighth = p.few })

-- Each line keeps what holds of the lines before.

row_sound : (before : Before) (row : Property) (after : Before) (n : ℕ) → Sound before n → is_early before.stage ≡ true
    → with_row before row ≡ Ok after → Sound after n
unfolding with_row
row_sound before row after n sound early e =
    let tests = three 602 605 608 _ _ _ (record before { rows = before.rows ++ row ∷ [] }) after e in
    let empty = no_items before.items before.item (sound.early early) (sound.begun (sound.early early)) in
    sound_along _ after n tests.3 (record {
      schema = schemas.sound_more before.rows row sound.schema (not_false (is_sound row) tests.0) tests.1 (by_not_le 64 (length before.rows) tests.2);
      few_callers = sound.few_callers;
      callers = sound.callers;
      names = sound.names;
      few_items = sound.few_items;
      items = ap (list_all (is_item (before.rows ++ row ∷ []))) empty;
      numbers = sound.numbers;
      bytes = sound.bytes;
      early = sound.early;
      begun = sound.begun;
    })

property_sound : (before : Before) (name : List ℕ) (kind : Option Kind) (flags : Option Flags) (after : Before) (n : ℕ) → Sound before n
    → is_early before.stage ≡ true → with_property before name kind flags ≡ Ok after → Sound after n
unfolding with_property
property_sound before name (Some kind) (Some flags) after n sound early e = row_sound before (row_of name kind flags) after n sound early e
property_sound before name (Some kind) None after n sound early e = cc
property_sound before name None flags after n sound early e = cc

caller_sound : (before : Before) (name : List ℕ) (claims : List (List ℕ)) (after : Before) (n : ℕ) → Sound before n
    → is_early before.stage ≡ true → with_caller before name claims ≡ Ok after → Sound after n
unfolding with_caller
caller_sound before name claims after n sound early e =
    let caller : Caller = caller_of name claims in
    let tests = three 605 607 608 _ _ _ (record before { stage = InCallers; callers = before.callers ++ caller_of name claims ∷ [] }) after e in
    let good = not_false (is_name name && list_all is_name claims) tests.1 in
    let few = by_not_le 10_000 (length before.callers) tests.2 in
    sound_along _ after n tests.3 (record {
      schema = sound.schema;
      few_callers = omega (arith, length-append before.callers (caller_of name claims ∷ []), few);
      callers = list_all-append is_caller before.callers (caller_of name claims ∷ []) ∙ both_true _ _ sound.callers (both_true _ _ good refl);
      names = different_more before.callers (caller_of name claims) sound.names tests.0;
      few_items = sound.few_items;
      items = sound.items;
      numbers = sound.numbers;
      bytes = sound.bytes;
      early = λ _. sound.early early;
      begun = sound.begun;
    })

new_bytes : (number : ℕ) (rank : ℤ) (url : List ℕ) → item_bytes (item_of number rank url) ≡ length url
new_bytes number rank url = omega arith

url_sound : (before : Before) (number : ℕ) (rank : ℤ) (o : Option (List ℕ)) (after : Before) (n m : ℕ) → Sound before n → ItemNumber number
    → is_from_to (neg_ℤ (pos 1_000_000_000)) (pos 1_000_000_000) rank ≡ true
    → ((url : List ℕ) → o ≡ Some url → (is_text url ≡ true) × (length url ≤ m))
    → is_above before.item number ≡ true → with_url before number rank o ≡ Ok after → Sound after (n + m)
unfolding with_url
url_sound before number rank None after n m sound numbered ranked texts above e = cc
url_sound before number rank (Some url) after n m sound numbered ranked texts above e =
    let tests = one 608 _ (record before { stage = BeforeAllow; items = items_of before; item = Some (item_of number rank url) }) after e in
    let text = texts url refl in
    let few = by_not_le 1_000_000 (length (items_of before)) tests.0 in
    let good = whole before.rows (item_of number rank url) (record {
      low = numbered.low;
      high = numbered.high;
      rank = ranked;
      url = text.0;
      allow = refl;
      deny = refl;
      values = refl;
      few = few_none 0 before.rows;
    }) in
    sound_along _ after (n + m) tests.1 (record {
      schema = sound.schema;
      few_callers = sound.few_callers;
      callers = sound.callers;
      names = sound.names;
      few_items = omega (arith, length-append (items_of before) (item_of number rank url ∷ []), few);
      items = list_all-append (is_item before.rows) (items_of before) (item_of number rank url ∷ []) ∙ both_true _ _ sound.items (both_true _ _ good refl);
      numbers = numbers_more before.items before.item (item_of number rank url) sound.begun sound.numbers above;
      bytes = omega (arith, sum_by_push item_bytes (items_of before) (item_of number rank url), new_bytes number rank url, sound.bytes, text.1);
      early = λ e. absurd (never e);
      begun = λ e. absurd (something (item_of number rank url) e);
    })

item_sound : (before : Before) (number : Option ℕ) (rank : Option ℤ) (url : Option (List ℕ)) (after : Before) (n m : ℕ) → Sound before n
    → ((k : ℕ) → number ≡ Some k → ItemNumber k)
    → ((r : ℤ) → rank ≡ Some r → is_from_to (neg_ℤ (pos 1_000_000_000)) (pos 1_000_000_000) r ≡ true)
    → ((text : List ℕ) → url ≡ Some text → (is_text text ≡ true) × (length text ≤ m))
    → with_item before number rank url ≡ Ok after → Sound after (n + m)
unfolding with_item
item_sound before (Some number) (Some rank) url after n m sound numbers ranks texts e =
    let tests = then_taken 606 (is_above before.item number) (with_url before number rank url) after e in
    url_sound before number rank url after n m sound (numbers number refl) (ranks rank refl) texts tests.0 tests.1
item_sound before (Some number) None url after n m sound numbers ranks texts e = cc
item_sound before None rank url after n m sound numbers ranks texts e = cc

claims_good : (claims : List (List ℕ)) → not (list_all is_name claims) ≡ false → nat_lt 64 (length claims) ≡ false → is_claim_list claims ≡ true
claims_good claims names few =
    both_true _ _ (le_true (length claims) 64 (by_not_lt 64 (length claims) few)) (not_false (list_all is_name claims) names)

allow_sound : (before : Before) (claims : List (List ℕ)) (after : Before) (n m : ℕ) → Sound before n → total claims ≤ m
    → with_allow before claims ≡ Ok after → Sound after (n + m)
unfolding with_allow list_fault
allow_sound before claims after n m sound within e =
    let tests = faultless 607 608 _ _ (allowed before claims) after e in
    sound_along _ after (n + m) tests.2
    (changed before BeforeDeny (allowing claims) n m sound (λ e. absurd (never e)) (λ item. refl)
    (λ item is good.
    let p = parts before.rows item good in
    whole before.rows (allowing claims item) (record {
      low = p.low;
      high = p.high;
      rank = p.rank;
      url = p.url;
      allow = claims_good claims tests.0 tests.1;
      deny = p.deny;
      values = p.values;
      few = p.few;
    }))
    (λ item. omega (arith, sum_total claims, within)))

deny_sound : (before : Before) (claims : List (List ℕ)) (after : Before) (n m : ℕ) → Sound before n → total claims ≤ m
    → with_deny before claims ≡ Ok after → Sound after (n + m)
unfolding with_deny list_fault
deny_sound before claims after n m sound within e =
    let tests = faultless 607 608 _ _ (denied before claims) after e in
    sound_along _ after (n + m) tests.2
    (changed before InValues (denying claims) n m sound (λ e. absurd (never e)) (λ item. refl)
    (λ item is good.
    let p = parts before.rows item good in
    whole before.rows (denying claims item) (record {
      low = p.low;
      high = p.high;
      rank = p.rank;
      url = p.url;
      allow = p.allow;
      deny = claims_good claims tests.0 tests.1;
      values = p.values;
      few = p.few;
    }))
    (λ item. omega (arith, sum_total claims, within)))

multi_or_none : (multi : Bool) (count : ℕ) → (not multi && nat_lt 0 count) ≡ false → (multi ≡ true) ⊎ (count ≡ 0)
multi_or_none true count e = inl refl
multi_or_none false count e = inr (omega (arith, by_not_lt 0 count e))

same_row : (o : Option Property) (row other : Property) → o ≡ Some row → o ≡ Some other → row ≡ other
same_row o row other e f = cc

content_sound : (before : Before) (property : ℕ) (row : Property) (field : List ℕ) (o : Result Content ℕ) (after : Before) (n m : ℕ)
    → Sound before n → slice_get before.rows property ≡ Some row → ((content : Content) → o ≡ Ok content → GoodContent row.kind field content)
    → length field ≤ m → with_content before property row.multi (count_of (values_of before.item) property) o ≡ Ok after → Sound after (n + m)
unfolding with_content
content_sound before property row field (Err code) after n m sound found contents within e = cc
content_sound before property row field (Ok content) after n m sound found contents within e =
    let value : Value = value_of property content in
    let tests = two 605 608 _ _ (held before (value_of property content)) after e in
    let good = contents content refl in
    let few = by_not_le 1_000 (count_of (values_of before.item) property) tests.1 in
    let alone = multi_or_none row.multi (count_of (values_of before.item) property) tests.0 in
    sound_along _ after (n + m) tests.2
    (changed before before.stage (holding (value_of property content)) n m sound sound.early (λ item. refl)
    (λ item is all.
    let p = parts before.rows item all in
    let room : Room item.values row property =
    let P : Option Item → Type 0 = λ o. Room (values_of o) row property in subst P is (few, alone) in
    let fits : (k : ℕ) (other : Property) → slice_get before.rows k ≡ Some other → 0 + k ≡ property → Room item.values other property = λ k other there at.
    let place : k ≡ property = omega (arith, at) in
    let same : row ≡ other = same_row _ row other found (ap (slice_get before.rows) (sym place) ∙ there) in
    let Q : Property → Type 0 = λ r. Room item.values r property in
    subst Q same room in
    let kept : is_value before.rows (value_of property content) ≡ true = rw found good.good in
    whole before.rows (holding (value_of property content) item) (record {
      low = p.low;
      high = p.high;
      rank = p.rank;
      url = p.url;
      allow = p.allow;
      deny = p.deny;
      values = list_all-append (is_value before.rows) item.values (value_of property content ∷ []) ∙ both_true _ _ p.values (both_true _ _ kept refl);
      few = few_more item.values (value_of property content) 0 before.rows p.few fits;
    }))
    (λ item. omega (arith, sum_by_push (λ v. content_bytes v.content) item.values (value_of property content), good.bytes, within)))

value_of_sound : (dates : DatesLieInYears) (before : Before) (property : ℕ) (o : Option Property) (field : List ℕ) (after : Before) (n m : ℕ) → Sound before n
    → slice_get before.rows property ≡ o → Clean field → length field ≤ m → m < 67_108_864
    → with_value_of before property o field ≡ Ok after → Sound after (n + m)
unfolding with_value_of
value_of_sound dates before property None field after n m sound found clean within short e = cc
value_of_sound dates before property (Some row) field after n m sound found clean within short e =
    let less : length field < 67_108_864 = omega (arith, within, short) in
    content_sound before property row field (content_of row.kind field) after n m sound found
    (λ content given. content_good dates row.kind field content clean less given) within e

value_sound : (dates : DatesLieInYears) (before : Before) (o : Option ℕ) (field : List ℕ) (after : Before) (n m : ℕ) → Sound before n → Clean field → length field ≤ m
    → m < 67_108_864 → with_value before o field ≡ Ok after → Sound after (n + m)
unfolding with_value
value_sound dates before None field after n m sound clean within short e = cc
value_sound dates before (Some property) field after n m sound clean within short e =
    value_of_sound dates before property (slice_get before.rows property) field after n m sound refl clean within short e

pub sound_more : (before : Before) (n m : ℕ) → Sound before n → Sound before (n + m)
sound_more before n m sound = record {
  schema = sound.schema;
  few_callers = sound.few_callers;
  callers = sound.callers;
  names = sound.names;
  few_items = sound.few_items;
  items = sound.items;
  numbers = sound.numbers;
  bytes = omega (arith, sound.bytes);
  early = sound.early;
  begun = sound.begun;
}

early_property : (stage : Stage) → may_stand stage PropertyRow ≡ true → is_early stage ≡ true
early_property Start e = refl
early_property InProperties e = refl
early_property InCallers e = refl
early_property BeforeAllow e = e
early_property BeforeDeny e = e
early_property InValues e = e

early_caller : (stage : Stage) → may_stand stage CallerRow ≡ true → is_early stage ≡ true
early_caller Start e = refl
early_caller InProperties e = refl
early_caller InCallers e = refl
early_caller BeforeAllow e = e
early_caller BeforeDeny e = e
early_caller InValues e = e

early_heading : (stage : Stage) → may_stand stage Heading ≡ true → is_early stage ≡ true
early_heading Start e = refl
early_heading InProperties e = refl
early_heading InCallers e = refl
early_heading BeforeAllow e = e
early_heading BeforeDeny e = e
early_heading InValues e = e

heading_sound : (before after : Before) (n : ℕ) → Sound before n → is_early before.stage ≡ true → record before { stage = InProperties } ≡ after → Sound after n
heading_sound before after n sound early e = sound_along _ after n e (record {
  schema = sound.schema;
  few_callers = sound.few_callers;
  callers = sound.callers;
  names = sound.names;
  few_items = sound.few_items;
  items = sound.items;
  numbers = sound.numbers;
  bytes = sound.bytes;
  early = λ _. sound.early early;
  begun = sound.begun;
})

abbrev as_taken : Before → Result Before ℕ
as_taken after = Ok after

same_after : (x after : Before) → as_taken x ≡ as_taken after → x ≡ after
same_after x after e = cc

known_sound : (dates : DatesLieInYears) (before : Before) (kind : LineKind) (fields : List (List ℕ)) (after : Before) (n m : ℕ) → Sound before n → may_stand before.stage kind ≡ true
    → AllClean fields → total fields ≤ m → m < 67_108_864 → with_known before kind fields ≡ Ok after → Sound after (n + m)
unfolding with_known
known_sound dates before Heading [] after n m sound stands clean within short e =
    sound_more after n m (heading_sound before after n sound (early_heading before.stage stands) (same_after _ after e))
known_sound dates before Heading (a ∷ rest) after n m sound stands clean within short e = cc
known_sound dates before PropertyRow [] after n m sound stands clean within short e = cc
known_sound dates before PropertyRow (a ∷ []) after n m sound stands clean within short e = cc
known_sound dates before PropertyRow (a ∷ (b ∷ [])) after n m sound stands clean within short e = cc
known_sound dates before PropertyRow (a ∷ (b ∷ (c ∷ []))) after n m sound stands clean within short e =
    sound_more after n m (property_sound before a (kind_of b) (flags_of c) after n sound (early_property before.stage stands) e)
known_sound dates before PropertyRow (a ∷ (b ∷ (c ∷ (d ∷ rest)))) after n m sound stands clean within short e = cc
known_sound dates before CallerRow [] after n m sound stands clean within short e = cc
known_sound dates before CallerRow (name ∷ claims) after n m sound stands clean within short e =
    sound_more after n m (caller_sound before name claims after n sound (early_caller before.stage stands) e)
known_sound dates before ItemHead [] after n m sound stands clean within short e = cc
known_sound dates before ItemHead (a ∷ []) after n m sound stands clean within short e = cc
known_sound dates before ItemHead (a ∷ (b ∷ [])) after n m sound stands clean within short e = cc
known_sound dates before ItemHead (a ∷ (b ∷ (c ∷ []))) after n m sound stands clean within short e =
    let fits : length c ≤ m = omega (arith, within) in
    item_sound before (item_number a) (rank_of b) (text_of c) after n m sound (number_in a) (rank_in b)
    (λ text spelled.
    let fine = fine_text c text clean.1.1.0 spelled in
    let short_text : length text ≤ m = omega (arith, fine.short, fits) in
    (text_good text m fine.clean short_text short, short_text))
    e
known_sound dates before ItemHead (a ∷ (b ∷ (c ∷ (d ∷ rest)))) after n m sound stands clean within short e = cc
known_sound dates before AllowList claims after n m sound stands clean within short e = allow_sound before claims after n m sound within e
known_sound dates before DenyList claims after n m sound stands clean within short e = deny_sound before claims after n m sound within e
known_sound dates before ValueRow [] after n m sound stands clean within short e = cc
known_sound dates before ValueRow (a ∷ []) after n m sound stands clean within short e = cc
known_sound dates before ValueRow (a ∷ (b ∷ [])) after n m sound stands clean within short e =
    value_sound dates before (position (has_name a) before.rows) b after n m sound clean.1.0 (omega (arith, within)) short e
known_sound dates before ValueRow (a ∷ (b ∷ (c ∷ rest))) after n m sound stands clean within short e = cc
known_sound dates before Unknown fields after n m sound stands clean within short e = cc

fields_sound : (dates : DatesLieInYears) (before : Before) (fields : List (List ℕ)) (after : Before) (n m : ℕ) → Sound before n
    → AllClean fields → total fields + length fields ≤ m + 1 → m < 67_108_864 → with_fields before fields ≡ Ok after → Sound after (n + m)
unfolding with_fields
fields_sound dates before [] after n m sound clean within short e = cc
fields_sound dates before (word ∷ fields) after n m sound clean within short e =
    let tests = then_taken 602 (may_stand before.stage (line_kind word)) (with_known before (line_kind word) fields) after e in
    known_sound dates before (line_kind word) fields after n m sound tests.0 clean.1 (omega (arith, within)) short tests.1

line_sound : (dates : DatesLieInYears) (before : Before) (line : List ℕ) (after : Before) (n : ℕ) → Sound before n → length line < 67_108_864
    → with_line before line ≡ Ok after → Sound after (n + length line)
unfolding with_line
line_sound dates before line after n sound short e =
    let utf8 = then_taken 601 (is_utf8 line) (with_text before line) after e in
    let xml = clean_at (is_xml_text line) (with_fields before (fields_of line)) after utf8.1 in
    fields_sound dates before (fields_of line) after n (length line) sound (clean_fields line (clean_line line utf8.0 xml.0)) (total_pieces 9 line) short xml.1

valid_after : (before : Before) (n : ℕ) → Sound before n → n ≤ 67_108_864 → IsValid (corpus_after before)
valid_after before n sound within = record {
  schema = sound.schema;
  few_callers = sound.few_callers;
  callers = sound.callers;
  names = sound.names;
  few_items = sound.few_items;
  items = sound.items;
  numbers = sound.numbers;
  bytes = omega (arith, sound.bytes, within);
}

ended : (t : Bool) (before : Before) (line : ℕ) (corpus : Corpus) → cond t (Ok (corpus_after before)) (faulty 602 line) ≡ Ok corpus → corpus_after before ≡ corpus
ended true before line corpus e = cc
ended false before line corpus e = cc

end_valid : (line : ℕ) (before : Before) (rest : List ℕ) (corpus : Corpus) (n : ℕ) → Sound before n → n ≤ 67_108_864
    → at_end line before rest ≡ Ok corpus → IsValid corpus
unfolding at_end
end_valid line before [] corpus n sound within e = subst IsValid (ended (may_end before.stage) before line corpus e) (valid_after before n sound within)
end_valid line before (byte ∷ rest) corpus n sound within e = cc

-- what the lines behind a line make of what it gave
abbrev Continues : Result Before ℕ → ℕ → List (List ℕ) → Corpus → Type 0
Continues taken number lines corpus = after_line number lines taken ≡ Ok corpus

taken_from : (taken : Result Before ℕ) (number : ℕ) (lines : List (List ℕ)) (corpus : Corpus) → Continues taken number lines corpus
    → (after : Before) × (taken ≡ Ok after) × (corpus_from (number + 1) after lines ≡ Ok corpus)
taken_from (Ok after) number lines corpus e = (after, refl, e)
taken_from (Err code) number lines corpus e = cc

lines_valid : (dates : DatesLieInYears) (lines : List (List ℕ)) (number : ℕ) (before : Before) (corpus : Corpus) (n : ℕ) → Sound before n → n + (total lines + length lines) ≤ 67_108_865
    → corpus_from number before lines ≡ Ok corpus → IsValid corpus
lines_valid dates [] number before corpus n sound within e = cc
lines_valid dates (rest ∷ []) number before corpus n sound within e = end_valid number before rest corpus n sound (omega (arith, within)) e
lines_valid dates (line ∷ (next ∷ rest)) number before corpus n sound within e =
    let from = taken_from (with_line before line) number (next ∷ rest) corpus e in
    lines_valid dates (next ∷ rest) (number + 1) from.0 corpus (n + length line)
    (line_sound dates before line from.0 n sound (omega (arith, within)) from.1) (omega (arith, within)) from.2

nothing_sound : Sound nothing_before 0
nothing_sound = record {
  schema = record { few = omega arith; faultless = λ i within. absurd (omega (arith, within)) };
  few_callers = omega arith;
  callers = refl;
  names = refl;
  few_items = omega arith;
  items = refl;
  numbers = refl;
  bytes = omega arith;
  early = λ _. refl;
  begun = λ _. refl;
}

pub corpus_valid : DatesLieInYears → SpelledCorporaAreValid
unfolding corpus_of
corpus_valid dates bytes corpus within e =
    lines_valid dates (lines_of bytes) 1 nothing_before corpus 0 nothing_sound (omega (arith, total_pieces 10 bytes, within)) e

-- What a reader answers is valid, since it is what the text spells.

pub answer_valid : SpelledCorporaAreValid → (bytes : List ℕ) (result : Result Corpus CorpusFault) → length bytes ≤ 67_108_864 → Reads bytes result
    → IfOk result IsValid
answer_valid law bytes (Ok corpus) within reads = law bytes corpus within reads
answer_valid law bytes (Err fault) within reads = tt

pub answer_short : ValidTextsAreShort → (result : Result Corpus CorpusFault) → IfOk result IsValid → IfOk result (λ corpus. list_all has_short_texts corpus.items ≡ true)
answer_short law (Ok corpus) valid = law corpus valid
answer_short law (Err fault) valid = tt

-- what is answered at the end of the text is what the whole text spells
pub reads_end : (number : ℕ) (before : Before) (rest bytes : List ℕ) (result : Result Corpus CorpusFault)
    → lines_of rest ≡ rest ∷ [] → corpus_from number before (lines_of rest) ≡ corpus_of bytes
    → IsAnswer (at_end number before rest) result → Reads bytes result
reads_end number before rest bytes result last kept answered =
    let P : Result Corpus LineFault → Type 0 = λ answer. IsAnswer answer result in
    subst P (step-end number before rest (corpus_of bytes) last kept) answered
