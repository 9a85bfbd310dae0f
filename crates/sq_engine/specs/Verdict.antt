-- What a caller is answered.
use Rattle.std.specs.Prelude.{ℕ, ◌+◌, Bool, true, false, if◌then◌else◌, List, [], ◌∷◌, position, slice_get, codes, Option, Some, None, option_map, Result, Ok, Err, ℤ, is_some}
use Rattle.std.specs.List.{find}
use Rattle.std.specs.Str.{bytes_eq}
use Rattle.sq_base.specs.Outcome.{Outcome}
use Rattle.sq_base.specs.declared.faults.QueryFault.{QueryFault}
use Rattle.sq_schema.specs.declared.property.Property.{Property}
use Rattle.sq_schema.specs.declared.property.Kind.{Kind}
use Rattle.sq_schema.specs.declared.property.Kind.TheVariants.{Text, Integer, DateTime, YesNo}
use Rattle.sq_schema.specs.Properties.{has_name}
use Rattle.sq_schema.specs.Words.{is_same_word}
use Rattle.sq_model.specs.declared.corpus.Caller.{Caller}
use Rattle.sq_model.specs.declared.corpus.Corpus.{Corpus}
use Rattle.sq_model.specs.Access.{Seen, view}
use Rattle.sq_packet.specs.declared.request.Direction.{Direction}
use Rattle.sq_packet.specs.declared.request.Request.{Request}
use Rattle.sq_packet.specs.declared.request.RefinerSpec.{RefinerSpec}
use Rattle.sq_packet.specs.declared.request.SortSpec.{SortSpec}
use Rattle.sq_response.specs.declared.response.Found.{Found}
use Rattle.sq_engine.specs.Query.{Query, query_of, joiner_of, holds, boost}
use Rattle.sq_engine.specs.Answer.{Meaning, SortKey, Score, Of, hits, found_of}

-- the caller is unknown, the text has a fault, a refiner or a sort of this number goes by nothing, there is no hit, or this is found
pub data Verdict : Type 0 where
  Unknown : Verdict
  Faulty : QueryFault → Verdict
  NoRefiner : ℕ → Verdict
  NoSort : ℕ → Verdict
  Nothing : Verdict
  Shows : Found → Verdict

-- what is said to a caller at a moment on a request
abbrev pub Says : Type 0
Says = List ℕ → ℤ → Request → Verdict

abbrev pub is_named : List ℕ → Caller → Bool
is_named name caller = bytes_eq caller.name name

-- whether there is a caller of this name
abbrev pub knows : Corpus → List ℕ → Bool
knows corpus name = is_some (find (is_named name) corpus.callers)

-- what the caller of a name sees, if there is one
abbrev pub seen_by : Corpus → List ℕ → Option (List Seen)
seen_by corpus name = option_map (λ caller. view corpus caller.claims) (find (is_named name) corpus.callers)

-- what a request's text means for a schema at a moment, or the text's first fault
abbrev pub meaning_by : List Property → Request → Outcome Query → Outcome Meaning
meaning_by schema request (Ok query) = Ok (record { holds = holds schema (joiner_of request) query; boost = boost schema (joiner_of request) query })
meaning_by schema request (Err fault) = Err fault

abbrev pub meaning_of : List Property → ℤ → Request → Outcome Meaning
meaning_of schema moment request = meaning_by schema request (query_of schema moment request.language request.text)

-- the number of the first that fails the test, counted from this number
abbrev pub first_without : {A : Type 0} → (A → Bool) → ℕ → List A → Option ℕ
first_without test i [] = None
first_without test i (x ∷ xs) = if test x then first_without test (i + 1) xs else Some i

abbrev pub is_refinable : List Property → RefinerSpec → Bool
is_refinable schema refiner = elim (find (has_name refiner.name) schema) [ None ↦ false | Some property ↦ property.refinable ]

-- items are sorted by whole numbers and by moments
abbrev pub has_keys : Kind → Bool
has_keys Integer = true
has_keys DateTime = true
has_keys Text = false
has_keys YesNo = false

abbrev pub key_at : ℕ → Option Property → Option SortKey
key_at row (Some property) = if has_keys property.kind then Some (Of row) else None
key_at row None = None

-- `Rank` is the score; else the first property of the name, where items are sorted by it
abbrev pub key_named : List Property → List ℕ → Option SortKey
key_named schema name =
    if is_same_word name (codes "rank") then Some Score
    else elim (position (has_name name) schema) [ None ↦ None | Some row ↦ key_at row (slice_get schema row) ]

-- what each sort goes by, or the number of the first that goes by nothing
abbrev pub onto_key : Option SortKey → Direction → ℕ → Result (List (SortKey × Direction)) ℕ → Result (List (SortKey × Direction)) ℕ
onto_key None direction i more = Err i
onto_key (Some key) direction i (Ok keys) = Ok ((key, direction) ∷ keys)
onto_key (Some key) direction i (Err j) = Err j

abbrev pub sort_keys : List Property → ℕ → List SortSpec → Result (List (SortKey × Direction)) ℕ
sort_keys schema i [] = Ok []
sort_keys schema i (sort ∷ sorts) = onto_key (key_named schema sort.name) sort.direction i (sort_keys schema (i + 1) sorts)

abbrev pub unless_empty : {A : Type 0} → List A → Found → Verdict
unless_empty [] found = Nothing
unless_empty (x ∷ xs) found = Shows found

-- The order of refusals: the text, the refiners, the sorts.
abbrev pub sorts_verdict : List Property → Meaning → Request → List Seen → Result (List (SortKey × Direction)) ℕ → Verdict
sorts_verdict schema meaning request seen (Err i) = NoSort i
sorts_verdict schema meaning request seen (Ok sorts) =
    unless_empty (hits meaning seen) (found_of schema meaning sorts request (hits meaning seen))

abbrev pub refiners_verdict : List Property → Meaning → Request → List Seen → Option ℕ → Verdict
refiners_verdict schema meaning request seen (Some i) = NoRefiner i
refiners_verdict schema meaning request seen None = sorts_verdict schema meaning request seen (sort_keys schema 0 request.sorts)

abbrev pub text_verdict : List Property → Request → List Seen → Outcome Meaning → Verdict
text_verdict schema request seen (Err fault) = Faulty fault
text_verdict schema request seen (Ok meaning) = refiners_verdict schema meaning request seen (first_without (is_refinable schema) 0 request.refiners)

-- What is said of what a caller sees, if there is such a caller.
unfoldable pub said : List Property → ℤ → Request → Option (List Seen) → Verdict
said schema moment request None = Unknown
said schema moment request (Some seen) = text_verdict schema request seen (meaning_of schema moment request)

-- What a corpus says: of its schema and of what the caller sees, and of nothing else.
abbrev pub verdict : Corpus → Says
verdict corpus name moment request = said corpus.schema moment request (seen_by corpus name)
