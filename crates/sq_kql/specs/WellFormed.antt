-- Trees that reading may give.
use Rattle.std.specs.Prelude.{◌≡◌, ◌≢◌, ℕ, ◌+◌, ◌≤◌, ◌<◌, unsigned_abs, [], length, fold, Option, Some, None, is_some, IfSome}
use Rattle.std.specs.List.{AllByRecursion}
use Rattle.sq_base.specs.Limits.{greatest_distance, greatest_boost, kql_byte_bound, kql_node_bound}
use Rattle.sq_tokens.specs.Token.{text_tokens}
use Rattle.sq_tokens.specs.Pattern.{without_good_star, first_bad_star}
use Rattle.sq_lex.specs.Shape.{is_range}
use Rattle.sq_kql.specs.Sums.{Counts, sum_over, sum_over_each, sum_over_operands}
use Rattle.sq_kql.specs.declared.raw.Piece.{Piece}
use Rattle.sq_kql.specs.declared.raw.KRaw.{KRaw, Free, All, Words, Group', Restrict, Near', Run', And', Or', Xrank', Row_of-KRaw, end_of-KRaw, more_of-KRaw, Row_of-KRawOperand, end_of-KRawOperand, more_of-KRawOperand}

abbrev pub IsStarless : Piece → Type 0
IsStarless p = first_bad_star p.text ≡ None

-- no bad star, and a token
abbrev pub IsPattern : Piece → Type 0
IsPattern p = IsStarless p × (text_tokens (without_good_star p.text) ≢ [])

-- one or more
abbrev pub AreSome : {m : _} → Row_of-KRaw m → Type 0
AreSome end_of-KRaw = ⊥
AreSome (more_of-KRaw part rest) = Unit {0}

abbrev pub AreSomeOperands : {m : _} → Row_of-KRawOperand m → Type 0
AreSomeOperands end_of-KRawOperand = ⊥
AreSomeOperands (more_of-KRawOperand sign at tree rest) = Unit {0}

abbrev mutual
  -- No list is empty. Free text and pieces of WORDS have a token and no bad star, other values no bad star. A range and no other relation has an upper value.
  -- Numbers are within their limits.
  pub HasForm : KRaw → Type 0
  HasForm (Free p) = IsPattern p
  HasForm (All at) = Unit {0}
  HasForm (Words at ps) = (ps ≢ []) × AllByRecursion IsPattern ps
  HasForm (Group' at s inside) = HaveForm inside
  HasForm (Restrict at name rel value upper) = IsStarless value × IfSome upper IsStarless × (is_some upper ≡ is_range rel)
  HasForm (Near' at s left t right n ordered) = HaveForm left × HaveForm right × (n ≤ greatest_distance)
  HasForm (Run' at s operands) = AreSomeOperands operands × OperandsHaveForm operands
  HasForm (And' at s parts) = AreSome parts × HaveForm parts
  HasForm (Or' at s parts) = AreSome parts × HaveForm parts
  HasForm (Xrank' at s matched t ranked cb) = HaveForm matched × HaveForm ranked × (unsigned_abs cb ≤ greatest_boost)

  pub HaveForm : {m : _} → Row_of-KRaw m → Type 0
  HaveForm end_of-KRaw = Unit {0}
  HaveForm (more_of-KRaw part rest) = HasForm part × HaveForm rest

  pub OperandsHaveForm : {m : _} → Row_of-KRawOperand m → Type 0
  OperandsHaveForm end_of-KRawOperand = Unit {0}
  OperandsHaveForm (more_of-KRawOperand sign at tree rest) = HasForm tree × OperandsHaveForm rest

abbrev pub piece_bytes : Piece → ℕ
piece_bytes p = length p.text

abbrev pub upper_bytes : Option Piece → ℕ
upper_bytes None = 0
upper_bytes (Some p) = piece_bytes p

-- the bytes of a tree's pieces
abbrev pub byte_counts : Counts
byte_counts = record {
  piece = piece_bytes;
  words = λ ps. fold (λ n p. n + piece_bytes p) 0 ps;
  upper = upper_bytes;
  whole = λ n. n;
}

abbrev pub bytes : KRaw → ℕ
bytes tree = sum_over byte_counts tree

abbrev pub bytes_each : {m : _} → Row_of-KRaw m → ℕ
bytes_each parts = sum_over_each byte_counts parts

abbrev pub operand_bytes : {m : _} → Row_of-KRawOperand m → ℕ
operand_bytes operands = sum_over_operands byte_counts operands

abbrev pub node_counts : Counts
node_counts = record {
  piece = λ p. 0;
  words = λ ps. 0;
  upper = λ upper. 0;
  whole = λ n. 1 + n;
}

abbrev pub nodes : KRaw → ℕ
nodes tree = sum_over node_counts tree

abbrev pub nodes_each : {m : _} → Row_of-KRaw m → ℕ
nodes_each parts = sum_over_each node_counts parts

abbrev pub operand_nodes : {m : _} → Row_of-KRawOperand m → ℕ
operand_nodes operands = sum_over_operands node_counts operands

pub record IsWellFormed (t : KRaw) : Type 0 where
  pub form : HasForm t
  pub few_bytes : bytes t < kql_byte_bound
  pub few_nodes : nodes t < kql_node_bound
