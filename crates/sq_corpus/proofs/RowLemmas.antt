-- Where the lines of the properties and of the callers lead.
use Rattle.std.proofs.Common.{◌≡◌, ℕ, ◌<◌, ◌≤◌, nat_le, Bool, true, false, cond, not, ◌&&◌, ◌||◌, List, [], ◌∷◌, ◌++◌, append_assoc, append-nil, map, length, length-append, refl, ap, sym, subst, ◌∙◌, arith, slice_get, Some, None, Result, Ok, Err}
use Rattle.std.specs.Prelude.{codes, option_and_then}
use Rattle.std.specs.List.{list_all, list_any, flat_map, AllByRecursion}
use Rattle.std.specs.Str.{bytes_eq}
use Rattle.std.proofs.Math.Seq.{take-append_seam, get_or-append_seam}
use Rattle.std.proofs.lemmas.Option.{slice_get-get_or}
use Rattle.std.proofs.lemmas.Bool.Decides.{nat_tests}
use Rattle.std.proofs.lemmas.List.Concat.{flat_map-cons}
use Rattle.sq_schema.specs.declared.fault.SchemaFault.{SchemaFault}
use Rattle.sq_schema.specs.declared.fault.SchemaFault.TheVariants.{Repeated, BadRow}
use Rattle.sq_schema.specs.declared.property.Kind.{Kind}
use Rattle.sq_schema.specs.declared.property.Kind.TheVariants.{Text, Integer, DateTime, YesNo}
use Rattle.sq_schema.specs.declared.property.Property.{Property}
use Rattle.sq_schema.specs.Names as schema_names
use Rattle.sq_schema.specs.Properties.{IsSchema, fault_behind, is_sound, has_name, is_text, is_integer}
use Rattle.sq_model.specs.declared.corpus.Caller.{Caller}
use Rattle.sq_model.specs.Valid.{is_name, is_caller, are_different}
use Rattle.sq_corpus.specs.declared.before.Before.{Before}
use Rattle.sq_corpus.specs.declared.before.Stage.{Stage}
use Rattle.sq_corpus.specs.declared.before.Stage.TheVariants.{InProperties, InCallers}
use Rattle.sq_corpus.specs.declared.words.LineKind.TheVariants.{CallerRow, ItemHead}
use Rattle.sq_corpus.specs.CorpusText.{nothing_before, may_end}
use Rattle.sq_corpus.specs.Lines.{may_stand, with_row, with_property, with_caller, is_named, with_known, with_fields}
use Rattle.sq_corpus.specs.Words.{line_kind, kind_of, flags_of, flags}
use Rattle.sq_corpus.specs.Written.{line, property_line, kind_word, flags_word, caller_line}
use Rattle.sq_corpus.proofs.CleanLemmas.{left_true, right_true}
use Rattle.sq_corpus.proofs.SoundLemmas.{name_of, left_false, right_false}
use Rattle.sq_corpus.proofs.PlainLemmas.{Plain}
use Rattle.sq_corpus.proofs.SpelledLemmas.{name_plain, row_name_plain}
use Rattle.sq_corpus.proofs.LeadLemmas.{Leads, leads_nil, leads_then, leads_along, leads_so, leads_line, word_plain, state}

pub heading_leads : Leads nothing_before (line (codes "SQCORPUS 1") []) (state InProperties [] [] [] None)
unfolding with_fields line_kind with_known
heading_leads = leads_line nothing_before (codes "SQCORPUS 1") [] (state InProperties [] [] [] None) (word_plain (codes "SQCORPUS 1") refl) tt refl

kind_back : (kind : Kind) → (kind_of (kind_word kind) ≡ Some kind) × Plain (kind_word kind)
unfolding kind_of
kind_back Text = (refl, word_plain (codes "text") refl)
kind_back Integer = (refl, word_plain (codes "integer") refl)
kind_back DateTime = (refl, word_plain (codes "datetime") refl)
kind_back YesNo = (refl, word_plain (codes "yesno") refl)

flags_back : (s m r : Bool) → (flags_of (flags_word s m r) ≡ Some (flags s m r)) × Plain (flags_word s m r)
unfolding flags_of
flags_back false false false = (refl, word_plain (codes "-") refl)
flags_back true false false = (refl, word_plain (codes "s") refl)
flags_back false true false = (refl, word_plain (codes "m") refl)
flags_back false false true = (refl, word_plain (codes "r") refl)
flags_back true true false = (refl, word_plain (codes "sm") refl)
flags_back true false true = (refl, word_plain (codes "sr") refl)
flags_back false true true = (refl, word_plain (codes "mr") refl)
flags_back true true true = (refl, word_plain (codes "smr") refl)

pub three_pass : (a b c : ℕ) (s t u : Bool) (x : Result Before ℕ) → s ≡ false → t ≡ false → u ≡ false
    → cond s (Err a) (cond t (Err b) (cond u (Err c) x)) ≡ x
three_pass a b c true t u x p q r = cc
three_pass a b c false true u x p q r = cc
three_pass a b c false false true x p q r = cc
three_pass a b c false false false x p q r = refl

pub not_le : (a b : ℕ) → b < a → nat_le a b ≡ false
not_le a b h = grind (arith, nat_tests, h)

pub not_true : (t : Bool) → t ≡ true → not t ≡ false
not_true true e = refl
not_true false e = cc

-- A row of a schema.

pub record GoodRow (earlier : List Property) (row : Property) : Type 0 where
  pub sound : is_sound row ≡ true
  pub free : list_any (has_name row.name) earlier ≡ false
  pub room : length earlier < 64

none_at : (s t : Bool) (a b : SchemaFault) → cond (not s) (Some a) (cond t (Some b) None) ≡ None → (s ≡ true) × (t ≡ false)
none_at true true a b e = cc
none_at true false a b e = (refl, refl)
none_at false t a b e = cc

pub good_row : (done : List Property) (row : Property) (rest : List Property) → IsSchema (done ++ row ∷ rest) → GoodRow done row
good_row done row rest schema =
    let within : length done < length (done ++ row ∷ rest) = omega (arith, length-append done (row ∷ rest)) in
    let here : slice_get (done ++ row ∷ rest) (length done) ≡ Some row =
    slice_get-get_or (done ++ row ∷ rest) (length done) row within ∙ ap (λ r. Some r) (get_or-append_seam done row rest row) in
    let fault : fault_behind done (length done) row ≡ None =
    sym (ap (λ earlier. option_and_then (fault_behind earlier (length done)) (slice_get (done ++ row ∷ rest) (length done))) (take-append_seam done (row ∷ rest))
    ∙ ap (λ at. option_and_then (fault_behind done (length done)) at) here)
    ∙ schema.faultless (length done) within in
    let tests = none_at (is_sound row) (list_any (has_name row.name) done) (BadRow (length done)) (Repeated (length done)) fault in
    record { sound = tests.0; free = tests.1; room = omega (arith, within, schema.few) }

pub sound_name : (row : Property) → is_sound row ≡ true → schema_names.is_name row.name ≡ true
unfolding is_sound
sound_name row good =
    left_true (schema_names.is_name row.name) (not row.searchable || is_text row.kind)
    (left_true (schema_names.is_name row.name && (not row.searchable || is_text row.kind)) (not row.refinable || is_integer row.kind) good)

row_taken : (done : List Property) (row : Property) → GoodRow done row
    → with_property (state InProperties done [] [] None) row.name (kind_of (kind_word row.kind)) (flags_of (flags_word row.searchable row.multi row.refinable))
    ≡ Ok (state InProperties (done ++ row ∷ []) [] [] None)
unfolding with_property with_row
row_taken done row good =
    ap (λ kind. with_property (state InProperties done [] [] None) row.name kind (flags_of (flags_word row.searchable row.multi row.refinable))) (kind_back row.kind).0
    ∙ ap (λ fs. with_property (state InProperties done [] [] None) row.name (Some row.kind) fs) (flags_back row.searchable row.multi row.refinable).0
    ∙ three_pass 602 605 608 (not (is_sound row)) (list_any (has_name row.name) done) (nat_le 64 (length done)) (Ok (state InProperties (done ++ row ∷ []) [] [] None))
    (not_true (is_sound row) good.sound) good.free (not_le 64 (length done) good.room)

row_leads : (done : List Property) (row : Property) → GoodRow done row
    → Leads (state InProperties done [] [] None) (property_line row) (state InProperties (done ++ row ∷ []) [] [] None)
unfolding with_fields line_kind with_known
row_leads done row good =
    leads_line (state InProperties done [] [] None) (codes "property")
    (row.name ∷ (kind_word row.kind ∷ (flags_word row.searchable row.multi row.refinable ∷ []))) (state InProperties (done ++ row ∷ []) [] [] None)
    (word_plain (codes "property") refl)
    (row_name_plain row.name (sound_name row good.sound), ((kind_back row.kind).1, ((flags_back row.searchable row.multi row.refinable).1, tt)))
    (row_taken done row good)

pub rows_lead : (done rest : List Property) → IsSchema (done ++ rest)
    → Leads (state InProperties done [] [] None) (flat_map property_line rest) (state InProperties (done ++ rest) [] [] None)
rows_lead done [] schema =
    leads_so _ (state InProperties done [] [] None) (state InProperties (done ++ []) [] [] None) []
    (ap (λ rows. state InProperties rows [] [] None) (sym (append-nil done))) (leads_nil (state InProperties done [] [] None))
rows_lead done (row ∷ rest) schema =
    let regrouped : (done ++ row ∷ []) ++ rest ≡ done ++ row ∷ rest = append_assoc done (row ∷ []) rest in
    leads_so _ (state InProperties ((done ++ row ∷ []) ++ rest) [] [] None) (state InProperties (done ++ row ∷ rest) [] [] None) (flat_map property_line (row ∷ rest))
    (ap (λ rows. state InProperties rows [] [] None) regrouped)
    (leads_along (state InProperties done [] [] None) (state InProperties ((done ++ row ∷ []) ++ rest) [] [] None) (property_line row ++ flat_map property_line rest) (flat_map property_line (row ∷ rest))
    (flat_map-cons property_line row rest)
    (leads_then (state InProperties done [] [] None) (state InProperties (done ++ row ∷ []) [] [] None) (state InProperties ((done ++ row ∷ []) ++ rest) [] [] None)
    (property_line row) (flat_map property_line rest)
    (row_leads done row (good_row done row rest schema))
    (rows_lead (done ++ row ∷ []) rest (subst IsSchema (sym regrouped) schema))))

-- Callers.

-- a caller or an item may come next, or the end
pub record Opens (stage : Stage) : Type 0 where
  pub caller : may_stand stage CallerRow ≡ true
  pub item : may_stand stage ItemHead ≡ true
  pub ends : may_end stage ≡ true

pub opens_properties : Opens InProperties
opens_properties = record { caller = refl; item = refl; ends = refl }

pub opens_callers : Opens InCallers
opens_callers = record { caller = refl; item = refl; ends = refl }

false_of : (t : Bool) → not t ≡ true → t ≡ false
false_of true e = cc
false_of false e = refl

absent : (text : List ℕ) (done : List Caller) (caller : Caller) (rest : List Caller)
    → list_any (bytes_eq text) (map name_of (done ++ caller ∷ rest)) ≡ false → bytes_eq text caller.name ≡ false
absent text [] caller rest e = left_false (bytes_eq text caller.name) (list_any (bytes_eq text) (map name_of rest)) e
absent text (c ∷ done) caller rest e =
    absent text done caller rest (right_false (bytes_eq text c.name) (list_any (bytes_eq text) (map name_of (done ++ caller ∷ rest))) e)

new_name : (done : List Caller) (caller : Caller) (rest : List Caller) → are_different (map name_of (done ++ caller ∷ rest)) ≡ true
    → list_any (is_named caller.name) done ≡ false
unfolding is_named
new_name [] caller rest different = refl
new_name (c ∷ done) caller rest different =
    or_false (bytes_eq c.name caller.name) (list_any (is_named caller.name) done)
    (absent c.name done caller rest
    (false_of (list_any (bytes_eq c.name) (map name_of (done ++ caller ∷ rest)))
    (left_true (not (list_any (bytes_eq c.name) (map name_of (done ++ caller ∷ rest)))) (are_different (map name_of (done ++ caller ∷ rest))) different)))
    (new_name done caller rest
    (right_true (not (list_any (bytes_eq c.name) (map name_of (done ++ caller ∷ rest)))) (are_different (map name_of (done ++ caller ∷ rest))) different))
  where
    or_false : (a b : Bool) → a ≡ false → b ≡ false → (a || b) ≡ false
    or_false true b p q = p
    or_false false b p q = q

pub claims_plain : (claims : List (List ℕ)) → list_all is_name claims ≡ true → AllByRecursion Plain claims
claims_plain [] good = tt
claims_plain (claim ∷ claims) good = (
  name_plain claim (left_true (is_name claim) (list_all is_name claims) good),
  claims_plain claims (right_true (is_name claim) (list_all is_name claims) good),
)

pub chosen : (t : Bool) (a b : Result Before ℕ) → t ≡ true → cond t a b ≡ a
chosen true a b e = refl
chosen false a b e = cc

caller_taken : (stage : Stage) (rows : List Property) (done : List Caller) (caller : Caller) → is_caller caller ≡ true
    → list_any (is_named caller.name) done ≡ false → length done < 10_000
    → with_caller (state stage rows done [] None) caller.name caller.claims ≡ Ok (state InCallers rows (done ++ caller ∷ []) [] None)
unfolding with_caller
caller_taken stage rows done caller good free room =
    three_pass 605 607 608 (list_any (is_named caller.name) done) (not (is_name caller.name && list_all is_name caller.claims)) (nat_le 10_000 (length done))
    (Ok (state InCallers rows (done ++ caller ∷ []) [] None)) free (not_true (is_name caller.name && list_all is_name caller.claims) good) (not_le 10_000 (length done) room)

caller_leads : (stage : Stage) (rows : List Property) (done : List Caller) (caller : Caller) → Opens stage → is_caller caller ≡ true
    → list_any (is_named caller.name) done ≡ false → length done < 10_000
    → Leads (state stage rows done [] None) (caller_line caller) (state InCallers rows (done ++ caller ∷ []) [] None)
unfolding with_fields line_kind with_known
caller_leads stage rows done caller opens good free room =
    let name = left_true (is_name caller.name) (list_all is_name caller.claims) good in
    let claims = right_true (is_name caller.name) (list_all is_name caller.claims) good in
    leads_line (state stage rows done [] None) (codes "caller") (caller.name ∷ caller.claims) (state InCallers rows (done ++ caller ∷ []) [] None)
    (word_plain (codes "caller") refl) (name_plain caller.name name, claims_plain caller.claims claims)
    (chosen (may_stand stage CallerRow) (with_caller (state stage rows done [] None) caller.name caller.claims) (Err 602) opens.caller
    ∙ caller_taken stage rows done caller good free room)

-- where the callers' lines lead
pub record AfterCallers (stage : Stage) (rows : List Property) (done : List Caller) (text : List ℕ) (all : List Caller) : Type 0 where
  pub last : Stage
  pub opens : Opens last
  pub leads : Leads (state stage rows done [] None) text (state last rows all [] None)

pub callers_lead : (stage : Stage) (rows : List Property) (done rest : List Caller) → Opens stage → list_all is_caller rest ≡ true
    → are_different (map name_of (done ++ rest)) ≡ true → length (done ++ rest) ≤ 10_000
    → AfterCallers stage rows done (flat_map caller_line rest) (done ++ rest)
callers_lead stage rows done [] opens good different few = record {
  last = stage;
  opens = opens;
  leads = leads_so (state stage rows done [] None) (state stage rows done [] None) (state stage rows (done ++ []) [] None) []
      (ap (λ callers. state stage rows callers [] None) (sym (append-nil done))) (leads_nil (state stage rows done [] None));
}
callers_lead stage rows done (caller ∷ rest) opens good different few =
    let regrouped : (done ++ caller ∷ []) ++ rest ≡ done ++ caller ∷ rest = append_assoc done (caller ∷ []) rest in
    let different_so = subst (λ callers. are_different (map name_of callers) ≡ true) (sym regrouped) different in
    let few_so = subst (λ callers. length callers ≤ 10_000) (sym regrouped) few in
    let behind = callers_lead InCallers rows (done ++ caller ∷ []) rest opens_callers
    (right_true (is_caller caller) (list_all is_caller rest) good) different_so few_so in
    let room : length done < 10_000 = omega (arith, few, length-append done (caller ∷ rest)) in
    record {
      last = behind.last;
      opens = behind.opens;
      leads = leads_so (state stage rows done [] None) (state behind.last rows ((done ++ caller ∷ []) ++ rest) [] None) (state behind.last rows (done ++ caller ∷ rest) [] None) (flat_map caller_line (caller ∷ rest))
          (ap (λ callers. state behind.last rows callers [] None) regrouped)
          (leads_along (state stage rows done [] None) (state behind.last rows ((done ++ caller ∷ []) ++ rest) [] None) (caller_line caller ++ flat_map caller_line rest)
          (flat_map caller_line (caller ∷ rest)) (flat_map-cons caller_line caller rest)
          (leads_then (state stage rows done [] None) (state InCallers rows (done ++ caller ∷ []) [] None) (state behind.last rows ((done ++ caller ∷ []) ++ rest) [] None)
          (caller_line caller) (flat_map caller_line rest)
          (caller_leads stage rows done caller opens (left_true (is_caller caller) (list_all is_caller rest) good) (new_name done caller rest different) room)
          behind.leads));
    }
