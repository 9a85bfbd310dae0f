-- The texts of a valid corpus are short, and its contents have texts.
use Rattle.std.proofs.Common.{arith, ◌≡◌, Bool, true, false, ◌&&◌, List, [], ◌∷◌, refl, Option, Some, None, length, ℤ, int_le}
use Rattle.std.specs.Prelude.{slice_get, nat_lt}
use Rattle.std.specs.List.{list_all}
use Rattle.std.specs.Str.{is_utf8}
use Rattle.sq_base.specs.Xml.{is_xml_text}
use Rattle.std.proofs.lemmas.Int.{ints}
use Rattle.sq_base.specs.Limits.{most_corpus_bytes}
use Rattle.sq_schema.specs.Bounds.{least_moment, greatest_moment}
use Rattle.sq_schema.specs.Moments.{IsMoment}
use Rattle.sq_schema.specs.declared.property.Property.{Property}
use Rattle.sq_schema.specs.declared.property.Kind.{Kind}
use Rattle.sq_schema.specs.declared.property.Kind.TheVariants.{Text, Integer, DateTime, YesNo}
use Rattle.sq_model.specs.declared.corpus.Content.{Content}
use Rattle.sq_model.specs.declared.corpus.Content.TheVariants.{Words, Number, Moment, Flag}
use Rattle.sq_model.specs.declared.corpus.Item.{Item}
use Rattle.sq_model.specs.declared.corpus.Corpus.{Corpus}
use Rattle.sq_model.specs.Shown.{has_shown_text}
use Rattle.sq_model.specs.Laws.{ValuesAreShown}
use Rattle.sq_model.specs.Valid.{IsValid, has_short_texts, is_short, has_kind, is_content_of, is_value, is_item}

pub and_left : (a b : Bool) → (a && b) ≡ true → a ≡ true
and_left true b h = refl
and_left false b h = h

pub and_right : (a b : Bool) → (a && b) ≡ true → b ≡ true
and_right true b h = h
and_right false b h = absurd (grind arith)

pub and_both : (a b : Bool) → a ≡ true → b ≡ true → (a && b) ≡ true
and_both a b h k = rw (h, k) refl

pub all_weaker : {X : Type 0} (p q : X → Bool) → ((x : X) → p x ≡ true → q x ≡ true) → (xs : List X) → list_all p xs ≡ true → list_all q xs ≡ true
all_weaker p q w [] h = refl
all_weaker p q w (x ∷ xs) h = and_both (q x) (list_all q xs) (w x (and_left (p x) (list_all p xs) h)) (all_weaker p q w xs (and_right (p x) (list_all p xs) h))

short_of_kind : (kind : Kind) (content : Content) → has_kind kind content ≡ true → is_short content ≡ true
short_of_kind Text (Words text) h = and_right (is_utf8 text && is_xml_text text) (nat_lt (length text) most_corpus_bytes) h
short_of_kind Integer (Words text) h = absurd (grind arith)
short_of_kind DateTime (Words text) h = absurd (grind arith)
short_of_kind YesNo (Words text) h = absurd (grind arith)
short_of_kind kind (Number n) h = refl
short_of_kind kind (Moment n) h = refl
short_of_kind kind (Flag b) h = refl

short_of_row : (row : Option Property) (content : Content) → is_content_of row content ≡ true → is_short content ≡ true
short_of_row None content h = absurd (grind arith)
short_of_row (Some row) content h = short_of_kind row.kind content h

item_is_short : (schema : List Property) (item : Item) → is_item schema item ≡ true → has_short_texts item ≡ true
item_is_short schema item h =
    all_weaker (is_value schema) (λ value. is_short value.content) (λ value k. short_of_row (slice_get schema value.property) value.content k) item.values
    (first_of (search h, grind (arith, h)))

pub valid_texts_are_short : (corpus : Corpus) → IsValid corpus → list_all has_short_texts corpus.items ≡ true
valid_texts_are_short corpus v = all_weaker (is_item corpus.schema) has_short_texts (item_is_short corpus.schema) corpus.items v.items

shown_of_kind : (kind : Kind) (content : Content) → has_kind kind content ≡ true → has_shown_text content ≡ true
shown_of_kind kind (Words text) h = refl
shown_of_kind kind (Number n) h = refl
shown_of_kind kind (Flag b) h = refl
shown_of_kind DateTime (Moment n) h = h
shown_of_kind Text (Moment n) h = absurd (grind arith)
shown_of_kind Integer (Moment n) h = absurd (grind arith)
shown_of_kind YesNo (Moment n) h = absurd (grind arith)

shown_of_row : (row : Option Property) (content : Content) → is_content_of row content ≡ true → has_shown_text content ≡ true
shown_of_row None content h = absurd (grind arith)
shown_of_row (Some row) content h = shown_of_kind row.kind content h

pub values_are_shown : ValuesAreShown
values_are_shown schema value h = shown_of_row (slice_get schema value.property) value.content h

-- a moment that has a text lies in the years 0001 to 9999
pub moment_lies : (n : ℤ) → has_shown_text (Moment n) ≡ true → IsMoment n
moment_lies n h =
    let above : int_le least_moment n ≡ true = and_left (int_le least_moment n) (int_le n greatest_moment) h in
    let below : int_le n greatest_moment ≡ true = and_right (int_le least_moment n) (int_le n greatest_moment) h in
    (grind (arith, ints, above), grind (arith, ints, below))
