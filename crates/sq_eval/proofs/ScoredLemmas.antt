-- The score of a sound expression is its boost where it holds.
use Rattle.std.proofs.Common.{◌≡◌, ℕ, ◌+◌, ◌^◌, ◌<◌, Bool, true, false, not, ◌&&◌, ◌||◌, List, ◌∷◌, arith, refl, ap, ◌∙◌, Option, Some, None}
use Rattle.std.proofs.lemmas.Int.{ints}
use Rattle.std.specs.List.{list_any, list_all}
use Rattle.std.specs.Prelude.{ℤ, pos, ◌+ℤ◌, if◌then◌else◌, is_some}
use Rattle.sq_schema.specs.declared.property.Property.{Property}
use Rattle.sq_model.specs.Fql.{holds, holds_each, gain, boosts}
use Rattle.sq_model.specs.FqlSound.{IsSound, PartsSound, EachSound}
use Rattle.sq_model.specs.Lists.{total}
use Rattle.sq_model.specs.declared.corpus.Value.{Value}
use Rattle.sq_model.specs.declared.fql.FTree.{FTree, All, Spans, Count, Edge, Within, And', Or', AndNot', Not', Filter', Xrank', Row_of-FTree, end_of-FTree, more_of-FTree}
use Rattle.sq_nodes.specs.Scores.{all_from, added, some_from, unless, with_boost, saturated}
use Rattle.sq_nodes.specs.Leaves.{plain}
use Rattle.sq_eval.specs.Scored.{scored, scored_each}
use Rattle.sq_eval.proofs.BoundLemmas.{IsUpTo, zero_up_to, wider, sum_up_to, boost_up_to, reach, reach_each, reach_more, each_of_some, gain_up_to}

-- a number below 2 ^ 63 is kept
pub kept_up_to : (n : ℕ) (z : ℤ) → IsUpTo n z → n < 2 ^ 63 → saturated z ≡ z
kept_up_to n z up l = grind (arith, ints, up.least, up.most)

-- a score: the boost where it holds
abbrev pub meant : Bool → ℤ → Option ℤ
meant b boost = if b then Some boost else None

some_of_meant : (b : Bool) (boost : ℤ) → is_some (meant b boost) ≡ b
some_of_meant true boost = refl
some_of_meant false boost = refl

all_step : (b held : Bool) (boost more z : ℤ) (m a : ℕ) (scores : List (Option ℤ)) → IsUpTo m boost → IsUpTo a z → a + m < 2 ^ 63 →
    ((y : ℤ) → IsUpTo (a + m) y → all_from y scores ≡ meant held (y +ℤ more)) →
    all_from z (meant b boost ∷ scores) ≡ meant (b && held) (z +ℤ ((if b then boost else pos 0) +ℤ more))
all_step false held boost more z m a scores up from few rest = refl
all_step true held boost more z m a scores up from few rest =
    let both = sum_up_to a m z boost from up in
    ap (λ y. all_from y scores) (kept_up_to (a + m) (z +ℤ boost) both few) ∙ rest (z +ℤ boost) both ∙ ap (meant held) (omega (arith, ints))

some_step : (b held before : Bool) (boost more z : ℤ) (m a : ℕ) (scores : List (Option ℤ)) → IsUpTo m boost → IsUpTo a z → a + m < 2 ^ 63 →
    ((h : Bool) (y : ℤ) → IsUpTo (a + m) y → some_from (meant h y) scores ≡ meant (h || held) ((if h then y else pos 0) +ℤ more)) →
    some_from (added (meant before z) (meant b boost)) scores ≡ meant (before || (b || held)) ((if before then z else pos 0) +ℤ ((if b then boost else pos 0) +ℤ more))
some_step true held true boost more z m a scores up from few rest =
    let both = sum_up_to a m z boost from up in
    ap (λ y. some_from (Some y) scores) (kept_up_to (a + m) (z +ℤ boost) both few) ∙ rest true (z +ℤ boost) both ∙ ap Some (omega (arith, ints))
some_step false held true boost more z m a scores up from few rest =
    rest true z (wider a (a + m) z from (omega arith)) ∙ ap Some (omega (arith, ints))
some_step true held false boost more z m a scores up from few rest =
    rest true boost (wider m (a + m) boost up (omega arith)) ∙ ap Some (omega (arith, ints))
some_step false held false boost more z m a scores up from few rest =
    rest false z (wider a (a + m) z from (omega arith)) ∙ ap (meant held) (omega (arith, ints))

without : (b other : Bool) (boost : ℤ) → unless other (meant b boost) ≡ meant (b && not other) boost
without true true boost = refl
without true false boost = refl
without false true boost = refl
without false false boost = refl

more_added : (b ranked : Bool) (boost cb : ℤ) → saturated (boost +ℤ cb) ≡ boost +ℤ cb → with_boost ranked cb (meant b boost) ≡ meant b (boost +ℤ (if ranked then cb else pos 0))
more_added false ranked boost cb kept = refl
more_added true true boost cb kept = ap Some kept
more_added true false boost cb kept = ap Some (omega (arith, ints))

plain_filter : (b : Bool) (boost : ℤ) → plain (is_some (meant b boost)) ≡ meant b (pos 0)
plain_filter b boost = ap plain (some_of_meant b boost)

module _ (schema : List Property) (values : List Value) where
  mutual
    pub scored_is : (tree : FTree) → PartsSound schema tree → reach tree < 2 ^ 63 → scored schema values tree ≡ meant (holds schema values tree) (gain schema values tree)
    scored_is All sound few = refl
    scored_is (Spans look tree) sound few = refl
    scored_is (Count look leaf from to) sound few = refl
    scored_is (Edge look leaf starts ends) sound few = refl
    scored_is (Within property first last) sound few = refl
    scored_is (And' shape parts) sound few =
        all_scored parts (each_of_some schema parts sound) 0 (pos 0) (zero_up_to 0) (omega arith) ∙ ap (meant _) (omega (arith, ints))
    scored_is (Or' shape parts) sound few =
        some_scored parts (each_of_some schema parts sound) false 0 (pos 0) (zero_up_to 0) (omega arith) ∙ ap (meant _) (omega (arith, ints))
    scored_is (AndNot' s (more_of-FTree first end_of-FTree) t others) sound few =
        let some = any_scored others (each_of_some schema others sound.1) (omega arith) in
        ap (λ b. unless b (scored schema values first)) some
        ∙ ap (unless (list_any (λ b. b) (holds_each schema values others))) (scored_is first sound.0.0 (omega arith))
        ∙ without (holds schema values first) (list_any (λ b. b) (holds_each schema values others)) (gain schema values first)
    scored_is (Not' s (more_of-FTree inner end_of-FTree)) sound few =
        ap (λ score. plain (not (is_some score))) (scored_is inner sound.0 (omega arith))
        ∙ ap (λ b. plain (not b)) (some_of_meant (holds schema values inner) (gain schema values inner))
    scored_is (Filter' s (more_of-FTree inner end_of-FTree)) sound few =
        ap (λ score. plain (is_some score)) (scored_is inner sound.0 (omega arith))
        ∙ plain_filter (holds schema values inner) (gain schema values inner)
    scored_is (Xrank' s (more_of-FTree matched end_of-FTree) t ranks cb) sound few =
        let some = any_scored ranks (each_of_some schema ranks sound.1) (omega arith) in
        let up = gain_up_to schema values matched sound.0.0 in
        let both = sum_up_to (reach matched) 1_000_000 (gain schema values matched) cb up (boost_up_to cb sound.2) in
        ap (λ b. with_boost b cb (scored schema values matched)) some
        ∙ ap (λ score. with_boost (list_any (λ b. b) (holds_each schema values ranks)) cb score) (scored_is matched sound.0.0 (omega arith))
        ∙ more_added (holds schema values matched) (list_any (λ b. b) (holds_each schema values ranks)) (gain schema values matched) cb (kept_up_to (reach matched + 1_000_000) _ both (omega arith))

    all_scored : {m : _} (row : Row_of-FTree m) → EachSound schema row → (a : ℕ) (z : ℤ) → IsUpTo a z → a + reach_each row < 2 ^ 63 →
        all_from z (scored_each schema values row) ≡ meant (list_all (λ b. b) (holds_each schema values row)) (z +ℤ total (boosts schema values row))
    all_scored end_of-FTree sound a z up few = ap Some (omega (arith, ints))
    all_scored (more_of-FTree part rest) sound a z up few =
        let e = reach_more part rest in
        ap (λ score. all_from z (score ∷ scored_each schema values rest)) (scored_is part sound.0 (omega (arith, e)))
        ∙ all_step (holds schema values part) (list_all (λ b. b) (holds_each schema values rest)) (gain schema values part) (total (boosts schema values rest)) z (reach part) a
        (scored_each schema values rest) (gain_up_to schema values part sound.0) up (omega (arith, e))
        (λ y ups. all_scored rest sound.1 (a + reach part) y ups (omega (arith, e)))

    some_scored : {m : _} (row : Row_of-FTree m) → EachSound schema row → (held : Bool) (a : ℕ) (z : ℤ) → IsUpTo a z → a + reach_each row < 2 ^ 63 →
        some_from (meant held z) (scored_each schema values row) ≡ meant (held || list_any (λ b. b) (holds_each schema values row)) ((if held then z else pos 0) +ℤ total (boosts schema values row))
    some_scored end_of-FTree sound true a z up few = ap Some (omega (arith, ints))
    some_scored end_of-FTree sound false a z up few = refl
    some_scored (more_of-FTree part rest) sound held a z up few =
        let e = reach_more part rest in
        ap (λ score. some_from (added (meant held z) score) (scored_each schema values rest)) (scored_is part sound.0 (omega (arith, e)))
        ∙ some_step (holds schema values part) (list_any (λ b. b) (holds_each schema values rest)) held (gain schema values part) (total (boosts schema values rest)) z (reach part) a
        (scored_each schema values rest) (gain_up_to schema values part sound.0) up (omega (arith, e))
        (λ h y ups. some_scored rest sound.1 h (a + reach part) y ups (omega (arith, e)))

    any_scored : {m : _} (row : Row_of-FTree m) → EachSound schema row → reach_each row < 2 ^ 63 →
        list_any is_some (scored_each schema values row) ≡ list_any (λ b. b) (holds_each schema values row)
    any_scored end_of-FTree sound few = refl
    any_scored (more_of-FTree part rest) sound few =
        let e = reach_more part rest in
        ap (λ score. is_some score || list_any is_some (scored_each schema values rest)) (scored_is part sound.0 (omega (arith, e)))
        ∙ ap (λ b. b || list_any is_some (scored_each schema values rest)) (some_of_meant (holds schema values part) (gain schema values part))
        ∙ ap (λ b. holds schema values part || b) (any_scored rest sound.1 (omega (arith, e)))

pub scored_of_sound : (schema : List Property) (values : List Value) (tree : FTree) → IsSound schema tree →
    scored schema values tree ≡ meant (holds schema values tree) (gain schema values tree)
scored_of_sound schema values tree sound = scored_is schema values tree sound.parts (omega (arith, sound.xranks))
