-- The runs of an item give back its values.
use Rattle.std.proofs.Common.{◌≡◌, ℕ, ◌+◌, ◌-◌, ◌<◌, ◌≤◌, ◌==◌, nat_lt, Bool, true, false, cond, List, [], ◌∷◌, ◌++◌, length, take, drop, refl, sym, ap, ap₂, ◌∙◌, arith, ◌⊎◌, inl, inr, Option, Some, None, zero, suc, append_assoc, length-append}
use Rattle.std.specs.List.{All, find, flat_map, range_with_len}
use Rattle.std.specs.Option.{unwrap_or}
use Rattle.std.proofs.lemmas.Bool.{cases_lt}
use Rattle.std.proofs.lemmas.Bool.Decides.{nat_tests}
use Rattle.std.proofs.lemmas.List.{drop-drop, drop_at, take_at, nil_from_length}
use Rattle.std.proofs.lemmas.List.Elements.{All-head, All-tail, All-weaker}
use Rattle.sq_model.specs.declared.corpus.Value.{Value}
use Rattle.sq_stored.specs.declared.runs.Run.{Run}
use Rattle.sq_stored.specs.Shown.{shown_values}
use Rattle.sq_stored.specs.Runs.{IsRunIn, is_run_of, run_under, run_texts, texts_under, run_of, runs_from}

abbrev no_run : Run
no_run = record { property = 0; start = 0; end = 0 }

pub runs_within : (count more : ℕ) (runs : List Run) → count ≤ more → All (IsRunIn count) runs → All (IsRunIn more) runs
runs_within count more runs l all =
    All-weaker (IsRunIn count) (IsRunIn more) (λ run is. record { ordered = is.ordered; within = omega (arith, is.within, l) }) runs all

at_first : (count : ℕ) (run : Run) (rest : Option Run) (b : Bool) → IsRunIn count run → IsRunIn count (unwrap_or rest no_run)
    → IsRunIn count (unwrap_or (cond b (Some run) rest) no_run)
at_first count run rest true own others = own
at_first count run rest false own others = others

pub run_under_within : (count : ℕ) (runs : List Run) (property : ℕ) → All (IsRunIn count) runs → IsRunIn count (run_under runs property)
run_under_within count [] property all = record { ordered = omega arith; within = omega arith }
run_under_within count (run ∷ runs) property all =
    at_first count run (find (is_run_of property) runs) (is_run_of property run) (All-head (IsRunIn count) run runs all)
    (run_under_within count runs property (All-tail (IsRunIn count) run runs all))

same_test : (a : ℕ) → (a == a) ≡ true
same_test a = grind (arith, nat_tests)

lower_test : (a b : ℕ) → a < b → (a == b) ≡ false
lower_test a b l = grind (arith, nat_tests)

higher_test : (a b : ℕ) → b < a → (a == b) ≡ false
higher_test a b l = grind (arith, nat_tests)

none_from_test : (start n : ℕ) → nat_lt start (start + n) ≡ false → n ≡ 0
none_from_test start n e = grind (arith, nat_tests)

-- a run of another property is passed over
passed : (property other start n : ℕ) (runs : List Run) → (other == property) ≡ false
    → find (is_run_of property) (run_of other start n ++ runs) ≡ find (is_run_of property) runs
passed property other start n runs apart = at (nat_lt start (start + n))
  where
    at : (b : Bool) → find (is_run_of property) (cond b (record { property = other; start = start; end = start + n } ∷ []) [] ++ runs) ≡ find (is_run_of property) runs
    at true = ap (λ t. cond t (Some (record { property = other; start = start; end = start + n })) (find (is_run_of property) runs)) apart
    at false = refl

-- the run of the property gives its texts
here : (texts own rest : List (List ℕ)) (property start : ℕ) (runs : List Run) → drop start texts ≡ own ++ rest → find (is_run_of property) runs ≡ None
    → texts_under texts (run_of property start (length own) ++ runs) property ≡ own
here texts own rest property start runs stand none = at (nat_lt start (start + length own)) refl
  where
    at : (b : Bool) → nat_lt start (start + length own) ≡ b
        → run_texts texts (unwrap_or (find (is_run_of property) (cond b (record { property = property; start = start; end = start + length own } ∷ []) [] ++ runs)) no_run) ≡ own
    at true e =
        let size : start + length own - start ≡ length own = omega arith in
        ap (λ t. run_texts texts (unwrap_or (cond t (Some (record { property = property; start = start; end = start + length own })) (find (is_run_of property) runs)) no_run)) (same_test property)
        ∙ ap₂ take size stand ∙ take_at own rest (length own) refl
    at false e =
        ap (λ o. run_texts texts (unwrap_or o no_run)) none ∙ sym (nil_from_length own (none_from_test start (length own) e))

module _ (values : List Value) where
  abbrev own : ℕ → List (List ℕ)
  own property = shown_values values property

  absent : (property a n start : ℕ) → property < a → find (is_run_of property) (runs_from values start (range_with_len a n)) ≡ None
  absent property a zero start l = refl
  absent property a (suc n) start l =
      passed property a start (length (own a)) _ (higher_test a property l)
      ∙ absent property (a + 1) n (start + length (own a)) (omega arith)

  pub runs_give : (texts : List (List ℕ)) (property a n start : ℕ) → a ≤ property → property < a + n
      → drop start texts ≡ flat_map (shown_values values) (range_with_len a n)
      → texts_under texts (runs_from values start (range_with_len a n)) property ≡ shown_values values property
  runs_give texts property a zero start low high stand = absurd (omega arith)
  runs_give texts property a (suc n) start low high stand =
      at (λ behind. runs_give texts property (a + 1) n (start + length (own a)) (omega arith) (omega arith)
      (sym (drop-drop (length (own a)) start texts) ∙ ap (drop (length (own a))) stand ∙ drop_at (own a) (flat_map (shown_values values) (range_with_len (a + 1) n)) (length (own a)) refl))
      (cases_lt a property)
    where
      same : a ≡ property → texts_under texts (runs_from values start (range_with_len a (suc n))) property ≡ shown_values values property
      same e =
          ap (λ q. texts_under texts (runs_from values start (range_with_len a (suc n))) q) (sym e)
          ∙ here texts (own a) (flat_map (shown_values values) (range_with_len (a + 1) n)) a start (runs_from values (start + length (own a)) (range_with_len (a + 1) n)) stand
          (absent a (a + 1) n (start + length (own a)) (omega arith))
          ∙ ap (shown_values values) e

      at : (a < property → texts_under texts (runs_from values (start + length (own a)) (range_with_len (a + 1) n)) property ≡ shown_values values property)
          → (a < property) ⊎ (property ≤ a) → texts_under texts (runs_from values start (range_with_len a (suc n))) property ≡ shown_values values property
      at more (inl behind) =
          ap (λ o. run_texts texts (unwrap_or o no_run)) (passed property a start (length (own a)) (runs_from values (start + length (own a)) (range_with_len (a + 1) n)) (lower_test a property behind))
          ∙ more behind
      at more (inr before) = same (omega (arith, low, before))

-- one property more
range_step : (i n : ℕ) → i < n → range_with_len i (n - i) ≡ i ∷ range_with_len (i + 1) (n - (i + 1))
range_step i n l = let e : n - i ≡ suc (n - (i + 1)) = omega arith in ap (range_with_len i) e

pub texts_turn : (f : ℕ → List (List ℕ)) (now new whole : List (List ℕ)) (i n : ℕ) → i < n → new ≡ now ++ f i
    → now ++ flat_map f (range_with_len i (n - i)) ≡ whole → new ++ flat_map f (range_with_len (i + 1) (n - (i + 1))) ≡ whole
texts_turn f now new whole i n l grows held =
    ap (λ t. t ++ flat_map f (range_with_len (i + 1) (n - (i + 1)))) grows
    ∙ append_assoc now (f i) (flat_map f (range_with_len (i + 1) (n - (i + 1))))
    ∙ sym (ap (λ ps. now ++ flat_map f ps) (range_step i n l)) ∙ held

pub runs_turn : (values : List Value) (texts more : List (List ℕ)) (now new whole : List Run) (i n : ℕ) → i < n → more ≡ texts ++ shown_values values i
    → new ≡ now ++ run_of i (length texts) (length (shown_values values i))
    → now ++ runs_from values (length texts) (range_with_len i (n - i)) ≡ whole
    → new ++ runs_from values (length more) (range_with_len (i + 1) (n - (i + 1))) ≡ whole
runs_turn values texts more now new whole i n l grown grows held =
    ap₂ (λ r s. r ++ runs_from values s (range_with_len (i + 1) (n - (i + 1)))) grows (ap length grown ∙ length-append texts (shown_values values i))
    ∙ append_assoc now (run_of i (length texts) (length (shown_values values i))) (runs_from values (length texts + length (shown_values values i)) (range_with_len (i + 1) (n - (i + 1))))
    ∙ sym (ap (λ ps. now ++ runs_from values (length texts) ps) (range_step i n l)) ∙ held
