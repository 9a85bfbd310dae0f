-- Laws of scores, which callers may use.
use Rattle.std.specs.Prelude.{ℤ, ◌≤ℤ◌, pos, neg_ℤ, List}
use Rattle.sq_schema.specs.declared.property.Property.{Property}
use Rattle.sq_model.specs.Fql.{gain}
use Rattle.sq_model.specs.FqlSound.{IsSound}
use Rattle.sq_model.specs.declared.corpus.Value.{Value}
use Rattle.sq_model.specs.declared.fql.FTree.{FTree}

-- the boost of a sound expression is at most this, and at least its negative: as many boosts as it may have, each as great as it may be
abbrev pub greatest_gain : ℤ
greatest_gain = pos 1_000_000_000_000

abbrev pub BoostsAreBounded : Type 0
BoostsAreBounded = (schema : List Property) (values : List Value) (tree : FTree) → IsSound schema tree →
    (neg_ℤ greatest_gain ≤ℤ gain schema values tree) × (gain schema values tree ≤ℤ greatest_gain)
