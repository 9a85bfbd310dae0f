-- The typed tree of a KQL expression for a schema and a moment, or the fault that goes first. [MS-KQL]
use Rattle.std.specs.Prelude.{ℕ, nat_le, List, [], ◌∷◌, map, if◌then◌else◌, Ok, ℤ}
use Rattle.sq_schema.specs.declared.property.Property.{Property}
use Rattle.sq_model.specs.KqlCopies.{copies}
use Rattle.sq_model.specs.declared.leaf.Leaf.{Leaf}
use Rattle.sq_model.specs.declared.kql.Sign.{Sign}
use Rattle.sq_model.specs.declared.kql.Sign.TheVariants as sign
use Rattle.sq_model.specs.declared.kql.KOperand.{KOperand}
use Rattle.sq_model.specs.declared.kql.KTree.{KTree}
use Rattle.sq_model.specs.declared.kql.KTree.TheVariants as tree
use Rattle.sq_model.specs.Limits.{most_copies}
use Rattle.sq_base.specs.Outcome.{Outcome, refused, ◌>>=◌}
use Rattle.sq_kql.specs.declared.raw.Piece.{Piece}
use Rattle.sq_kql.specs.declared.raw.RawSign.{RawSign}
use Rattle.sq_kql.specs.declared.raw.RawSign.TheVariants as raw
use Rattle.sq_kql.specs.declared.raw.KRawOperand.{KRawOperand}
use Rattle.sq_kql.specs.declared.raw.KRaw.{KRaw, Free, All, Words, Group', Restrict, Near', Run', And', Or', Xrank', Row_of-KRaw, end_of-KRaw, more_of-KRaw, Row_of-KRawOperand, end_of-KRawOperand, more_of-KRawOperand}
use Rattle.sq_typing.specs.declared.codes.TheConstants.{NOT_IN_PROXIMITY, TOO_MANY_FORMS}
use Rattle.sq_typing.specs.Together.{mapped, together, all_of}
use Rattle.sq_typing.specs.KqlValues.{relation_of, leaf_of, misplaced, restriction}

abbrev pub sign_of : RawSign → Sign
sign_of raw.Plain = sign.Plain
sign_of raw.Plus = sign.Plus
sign_of raw.Minus = sign.Minus

abbrev pub operand_of : RawSign → KTree → KOperand
operand_of s t = record { sign = sign_of s; tree = t }

abbrev pub leaves_of : List Piece → List Leaf
leaves_of pieces = map (λ p. leaf_of p.text) pieces

-- an outermost proximity expression has not too many copies
unfoldable pub with_few_copies : ℕ → KTree → Outcome KTree
with_few_copies at t = if nat_le (copies t) most_copies then Ok t else refused TOO_MANY_FORMS at

abbrev pub few_copies : ℕ → Outcome KTree → Outcome KTree
few_copies at near = near >>= with_few_copies at

module _ (schema : List Property) where
  abbrev mutual
    -- An expression inside NEAR or ONEAR: free text, WORDS, OR, groups, NEAR and ONEAR. Nothing else may stand there, and what is in it isn't judged, but for a
    -- restriction's property and relation.
    pub proximate : KRaw → Outcome KTree
    proximate (Free p) = Ok (tree.Free (leaf_of p.text))
    proximate (All at) = refused NOT_IN_PROXIMITY at
    proximate (Words at pieces) = Ok (tree.Words (leaves_of pieces))
    proximate (Group' at s (more_of-KRaw inside end_of-KRaw)) = mapped tree.Group (proximate inside)
    proximate (Restrict at name r value upper) = misplaced schema at name (relation_of r)
    proximate (Near' at s (more_of-KRaw left end_of-KRaw) t (more_of-KRaw right end_of-KRaw) n ordered) =
        together (λ l r. tree.Near l r n ordered) (proximate left) (proximate right)
    proximate (Run' at s operands) = refused NOT_IN_PROXIMITY at
    proximate (And' at s parts) = refused NOT_IN_PROXIMITY at
    proximate (Or' at s parts) = mapped tree.Or (all_of (proximate_each parts))
    proximate (Xrank' at s matched t ranked cb) = refused NOT_IN_PROXIMITY at

    pub proximate_each : {m : _} → Row_of-KRaw m → List (Outcome KTree)
    proximate_each end_of-KRaw = []
    proximate_each (more_of-KRaw part rest) = proximate part ∷ proximate_each rest

  module _ (now : ℤ) where
    abbrev mutual
      pub typed : KRaw → Outcome KTree
      typed (Free p) = Ok (tree.Free (leaf_of p.text))
      typed (All at) = Ok tree.All
      typed (Words at pieces) = Ok (tree.Words (leaves_of pieces))
      typed (Group' at s (more_of-KRaw inside end_of-KRaw)) = mapped tree.Group (typed inside)
      typed (Restrict at name r value upper) = restriction schema now at name (relation_of r) value upper
      typed (Near' at s left t right n ordered) = few_copies at (proximate (Near' at s left t right n ordered))
      typed (Run' at s operands) = mapped tree.Run (all_of (typed_operands operands))
      typed (And' at s parts) = mapped tree.And (all_of (typed_each parts))
      typed (Or' at s parts) = mapped tree.Or (all_of (typed_each parts))
      typed (Xrank' at s (more_of-KRaw matched end_of-KRaw) t (more_of-KRaw ranked end_of-KRaw) cb) =
          together (λ m r. tree.Xrank m r cb) (typed matched) (typed ranked)

      pub typed_each : {m : _} → Row_of-KRaw m → List (Outcome KTree)
      typed_each end_of-KRaw = []
      typed_each (more_of-KRaw part rest) = typed part ∷ typed_each rest

      pub typed_operands : {m : _} → Row_of-KRawOperand m → List (Outcome KOperand)
      typed_operands end_of-KRawOperand = []
      typed_operands (more_of-KRawOperand s at part rest) = mapped (operand_of s) (typed part) ∷ typed_operands rest

    -- an operand of a run, with its sign
    abbrev pub typed_operand : KRawOperand → Outcome KOperand
    typed_operand operand = mapped (operand_of operand.sign) (typed operand.tree)
