-- How great a boost may be.
use Rattle.std.proofs.Common.{◌≡◌, ℕ, ◌+◌, ◌*◌, ◌≤◌, Bool, true, false, List, sum, arith}
use Rattle.std.proofs.lemmas.Int.{ints}
use Rattle.std.proofs.lemmas.List.Sums.{sum_by-cons}
use Rattle.std.specs.List.{list_any}
use Rattle.std.specs.Prelude.{ℤ, pos, neg_ℤ, ◌+ℤ◌, ◌≤ℤ◌, if◌then◌else◌}
use Rattle.sq_schema.specs.declared.property.Property.{Property}
use Rattle.sq_model.specs.Fql.{holds, holds_each, gain, boosts}
use Rattle.sq_model.specs.FqlSound.{PartsSound, SomeSound, EachSound, xranks_in, xranks_each}
use Rattle.sq_model.specs.Kinds.{is_boost}
use Rattle.sq_model.specs.Lists.{total}
use Rattle.sq_model.specs.declared.corpus.Value.{Value}
use Rattle.sq_model.specs.declared.fql.FTree.{FTree, And', Or', AndNot', Xrank', Row_of-FTree, end_of-FTree, more_of-FTree}
use Rattle.sq_eval.specs.Laws.{BoostsAreBounded}

-- the number lies between -n and n
pub record IsUpTo (n : ℕ) (z : ℤ) : Type 0 where
  pub least : neg_ℤ (pos n) ≤ℤ z
  pub most : z ≤ℤ pos n

pub zero_up_to : (n : ℕ) → IsUpTo n (pos 0)
zero_up_to n = record { least = omega (arith, ints); most = omega (arith, ints) }

pub wider : (m n : ℕ) (z : ℤ) → IsUpTo m z → m ≤ n → IsUpTo n z
wider m n z up l = record { least = omega (arith, ints, up.least); most = omega (arith, ints, up.most) }

pub sum_up_to : (m n : ℕ) (y z : ℤ) → IsUpTo m y → IsUpTo n z → IsUpTo (m + n) (y +ℤ z)
sum_up_to m n y z up more = record { least = omega (arith, ints, up.least, more.least); most = omega (arith, ints, up.most, more.most) }

pub choice_up_to : (n : ℕ) (b : Bool) (z : ℤ) → IsUpTo n z → IsUpTo n (if b then z else pos 0)
choice_up_to n true z up = up
choice_up_to n false z up = zero_up_to n

pub boost_up_to : (cb : ℤ) → is_boost cb ≡ true → IsUpTo 1_000_000 cb
boost_up_to cb is = record { least = grind (arith, ints); most = grind (arith, ints) }

-- what a tree may add: a million for each xrank in it
abbrev pub reach : FTree → ℕ
reach tree = 1_000_000 * xranks_in tree

abbrev pub reach_each : {m : _} → Row_of-FTree m → ℕ
reach_each row = 1_000_000 * sum (xranks_each row)

pub reach_more : {m : _} (part : FTree) (rest : Row_of-FTree m) → reach_each (more_of-FTree part rest) ≡ reach part + reach_each rest
reach_more part rest = let e = sum_by-cons (λ n. n) (xranks_in part) (xranks_each rest) in omega (arith, e)

pub each_of_some : {m : _} (schema : List Property) (row : Row_of-FTree m) → SomeSound schema row → EachSound schema row
each_of_some schema end_of-FTree sound = absurd sound
each_of_some schema (more_of-FTree part rest) sound = sound

module _ (schema : List Property) (values : List Value) where
  mutual
    pub gain_up_to : (tree : FTree) → PartsSound schema tree → IsUpTo (reach tree) (gain schema values tree)
    gain_up_to (And' shape parts) sound = boosts_up_to parts (each_of_some schema parts sound)
    gain_up_to (Or' shape parts) sound = boosts_up_to parts (each_of_some schema parts sound)
    gain_up_to (AndNot' s (more_of-FTree first end_of-FTree) t others) sound =
        wider (reach first) _ _ (gain_up_to first sound.0.0) (omega arith)
    gain_up_to (Xrank' s (more_of-FTree matched end_of-FTree) t ranks cb) sound =
        let some = list_any (λ b. b) (holds_each schema values ranks) in
        let more = choice_up_to 1_000_000 some cb (boost_up_to cb sound.2) in
        wider (reach matched + 1_000_000) _ _ (sum_up_to (reach matched) 1_000_000 (gain schema values matched) _ (gain_up_to matched sound.0.0) more) (omega arith)
    gain_up_to _ sound = zero_up_to _

    pub boosts_up_to : {m : _} (row : Row_of-FTree m) → EachSound schema row → IsUpTo (reach_each row) (total (boosts schema values row))
    boosts_up_to end_of-FTree sound = zero_up_to _
    boosts_up_to (more_of-FTree part rest) sound =
        let first = choice_up_to (reach part) (holds schema values part) (gain schema values part) (gain_up_to part sound.0) in
        wider (reach part + reach_each rest) _ _ (sum_up_to (reach part) (reach_each rest) _ _ first (boosts_up_to rest sound.1)) (omega (arith, reach_more part rest))

pub boosts_are_bounded : BoostsAreBounded
boosts_are_bounded schema values tree sound =
    let up = wider (reach tree) 1_000_000_000_000 _ (gain_up_to schema values tree sound.parts) (omega (arith, sound.xranks)) in (up.least, up.most)
