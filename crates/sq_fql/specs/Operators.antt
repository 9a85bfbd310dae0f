-- The table of operators: their words, their operands and their parameters.
use Rattle.std.specs.Prelude.{ℕ, true, false, if◌then◌else◌, List, [], ◌∷◌, Option, Some, None, codes}
use Rattle.std.specs.Str.{str_eq_ignore_ascii_case}
use Rattle.sq_lex.specs.Bytes.{TextBytes}
use Rattle.sq_fql.specs.declared.operator.Operator.{Operator}
use Rattle.sq_fql.specs.declared.operator.Operator.TheVariants as operator
use Rattle.sq_fql.specs.declared.operator.Arity.{Arity}
use Rattle.sq_fql.specs.declared.parameter.Parameter.{Parameter}
use Rattle.sq_fql.specs.declared.parameter.Parameter.TheVariants as parameter

-- what a table has for a word, which is read in any ASCII case
abbrev pub named : {X : Type 0} → TextBytes → List (TextBytes × X) → Option X
named word [] = None
named word (entry ∷ entries) = if str_eq_ignore_ascii_case word entry.0 then Some entry.1 else named word entries

abbrev pub item_operators : List (TextBytes × Operator)
item_operators =
    (codes "and", operator.And) ∷ (codes "or", operator.Or) ∷ (codes "any", operator.Any) ∷ (codes "andnot", operator.AndNot) ∷ (codes "not", operator.Not)
    ∷ (codes "filter", operator.Filter) ∷ (codes "count", operator.Count) ∷ (codes "range", operator.Range) ∷ (codes "xrank", operator.Xrank) ∷ []

abbrev pub text_operators : List (TextBytes × Operator)
text_operators =
    (codes "near", operator.Near) ∷ (codes "onear", operator.Onear) ∷ (codes "words", operator.Words) ∷ (codes "phrase", operator.Phrase)
    ∷ (codes "starts-with", operator.StartsWith) ∷ (codes "ends-with", operator.EndsWith) ∷ (codes "equals", operator.Equals)
    ∷ (codes "string", operator.Str) ∷ (codes "int", operator.Int) ∷ (codes "datetime", operator.DateTime) ∷ []

abbrev pub or_text_operator : TextBytes → Option Operator → Option Operator
or_text_operator word (Some op) = Some op
or_text_operator word None = named word text_operators

-- the operator of a word
abbrev pub operator_of : TextBytes → Option Operator
operator_of word = or_text_operator word (named word item_operators)

-- so many operands, at least and at most; those of `literals` are all literals
abbrev pub some : ℕ → Option ℕ → Arity
some least most = record { least = least; most = most; literals = false }

abbrev pub literals : ℕ → Option ℕ → Arity
literals least most = record { least = least; most = most; literals = true }

-- the operands of an operator
abbrev pub operands_of : Operator → Arity
operands_of operator.And = some 1 None
operands_of operator.Or = some 1 None
operands_of operator.Any = some 1 None
operands_of operator.AndNot = some 2 None
operands_of operator.Not = some 1 (Some 1)
operands_of operator.Filter = some 1 (Some 1)
operands_of operator.Count = some 1 (Some 1)
operands_of operator.Range = some 2 (Some 2)
operands_of operator.Xrank = some 2 None
operands_of operator.Near = some 2 None
operands_of operator.Onear = some 2 None
operands_of operator.Words = literals 1 None
operands_of operator.Phrase = literals 1 None
operands_of operator.StartsWith = some 1 (Some 1)
operands_of operator.EndsWith = some 1 (Some 1)
operands_of operator.Equals = some 1 (Some 1)
operands_of operator.Str = literals 1 (Some 1)
operands_of operator.Int = literals 1 (Some 1)
operands_of operator.DateTime = literals 1 (Some 1)

-- the parameters of an operator
abbrev pub parameters : Operator → List (TextBytes × Parameter)
parameters operator.Near = (codes "n", parameter.Distance) ∷ []
parameters operator.Onear = (codes "n", parameter.Distance) ∷ []
parameters operator.Count = (codes "from", parameter.From) ∷ (codes "to", parameter.To) ∷ []
parameters operator.Range = (codes "from", parameter.Lower) ∷ (codes "to", parameter.Upper) ∷ []
parameters operator.Str = (codes "mode", parameter.ModeName) ∷ (codes "n", parameter.Distance) ∷ []
parameters operator.Xrank =
    (codes "cb", parameter.Cb) ∷ (codes "n", parameter.Sample) ∷ (codes "rb", parameter.OtherBoost) ∷ (codes "pb", parameter.OtherBoost)
    ∷ (codes "avgb", parameter.OtherBoost) ∷ (codes "stdb", parameter.OtherBoost) ∷ (codes "nb", parameter.OtherBoost) ∷ []
parameters _ = []
