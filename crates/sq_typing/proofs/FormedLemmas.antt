-- The parts of a well-formed tree are well formed.
use Rattle.std.proofs.Common.{◌≡◌, ℕ, ◌+◌, ◌<◌, ◌≤◌, Bool, List, [], ◌∷◌, fold, Option, subst, arith, ℤ}
use Rattle.std.specs.List.{All, AllByRecursion}
use Rattle.std.proofs.lemmas.List.Elements.{All-from_recursion}
use Rattle.sq_lex.specs.declared.lexeme.Relation.{Relation}
use Rattle.sq_kql.specs.declared.raw.Piece.{Piece}
use Rattle.sq_kql.specs.declared.raw.KRawOperand.{KRawOperand}
use Rattle.sq_kql.specs.declared.raw.KRaw.{KRaw, Words, Restrict, Group, Near, Run, And, Or, Xrank, Row_of-KRaw, end_of-KRaw, more_of-KRaw, Row_of-KRawOperand, end_of-KRawOperand, more_of-KRawOperand, items-the_row-KRaw, items_hidden-the_row-KRaw-2, items-the_row-KRawOperand, items_hidden-the_row-KRawOperand-1}
use Rattle.sq_kql.specs.declared.raw.KRaw.TheBlock.{shape-the_row-KRaw-0, hidden-the_row-KRaw-0, hidden-the_row-KRaw-2, hidden-the_row-KRawOperand-1}
use Rattle.sq_kql.specs.WellFormed.{IsPattern, HaveForm, OperandsHaveForm, bytes_each, operand_bytes, piece_bytes}
use Rattle.sq_typing.specs.Formed.{IsFormed, IsLiteral, IsValue}

abbrev IsFormedOperand : KRawOperand → Type 0
IsFormedOperand operand = IsFormed operand.tree

formed_row : {m : _} (row : Row_of-KRaw m) → HaveForm row → bytes_each row < 1_000_000 → AllByRecursion IsFormed (items-the_row-KRaw m row)
formed_row end_of-KRaw form short = tt
formed_row (more_of-KRaw part rest) form short = (record { form = form.0; short = omega arith }, formed_row rest form.1 (omega arith))

formed_list : (parts : List KRaw) → HaveForm (hidden-the_row-KRaw-2 parts) → bytes_each (hidden-the_row-KRaw-2 parts) < 1_000_000 → All IsFormed parts
formed_list parts form short =
    All-from_recursion IsFormed parts (subst (AllByRecursion IsFormed) (items_hidden-the_row-KRaw-2 parts) (formed_row (hidden-the_row-KRaw-2 parts) form short))

formed_operand_row : {m : _} (row : Row_of-KRawOperand m) → OperandsHaveForm row → operand_bytes row < 1_000_000 → AllByRecursion IsFormedOperand (items-the_row-KRawOperand m row)
formed_operand_row end_of-KRawOperand form short = tt
formed_operand_row (more_of-KRawOperand sign at part rest) form short =
    (record { form = form.0; short = omega arith }, formed_operand_row rest form.1 (omega arith))

formed_operands : (operands : List KRawOperand) → OperandsHaveForm (hidden-the_row-KRawOperand-1 operands) → operand_bytes (hidden-the_row-KRawOperand-1 operands) < 1_000_000 →
    All IsFormedOperand operands
formed_operands operands form short =
    All-from_recursion IsFormedOperand operands
    (subst (AllByRecursion IsFormedOperand) (items_hidden-the_row-KRawOperand-1 operands) (formed_operand_row (hidden-the_row-KRawOperand-1 operands) form short))

bytes_from : (n : ℕ) (ps : List Piece) → n ≤ fold (λ m p. m + piece_bytes p) n ps
bytes_from n [] = omega arith
bytes_from n (p ∷ ps) = omega (arith, bytes_from (n + piece_bytes p) ps)

literals_from : (n : ℕ) (ps : List Piece) → AllByRecursion IsPattern ps → fold (λ m p. m + piece_bytes p) n ps < 1_000_000 → AllByRecursion IsLiteral ps
literals_from n [] form short = tt
literals_from n (p ∷ ps) form short =
    (record { pattern = form.0; short = omega (arith, bytes_from (n + piece_bytes p) ps) }, literals_from (n + piece_bytes p) ps form.1 short)

pub formed_words : {t : KRaw} (at : ℕ) (ps : List Piece) → t ≡ Words at ps → IsFormed t → All IsLiteral ps
formed_words at ps is h =
    let formed = subst IsFormed is h in
    All-from_recursion IsLiteral ps (literals_from 0 ps formed.form.1 formed.short)

pub formed_group : {t : KRaw} (at : ℕ) (inside : KRaw) → t ≡ Group at inside → IsFormed t → IsFormed inside
unfolding shape-the_row-KRaw-0 hidden-the_row-KRaw-0 denote.Hole.Carrier.hidden
formed_group at inside is h =
    let formed = subst IsFormed is h in
    record { form = formed.form.0; short = omega (arith, formed.short) }

pub formed_left : {t : KRaw} (at : ℕ) (left right : KRaw) (n : ℕ) (ordered : Bool) → t ≡ Near at left right n ordered → IsFormed t → IsFormed left
unfolding shape-the_row-KRaw-0 hidden-the_row-KRaw-0 denote.Hole.Carrier.hidden
formed_left at left right n ordered is h =
    let formed = subst IsFormed is h in
    record { form = formed.form.0.0; short = omega (arith, formed.short) }

pub formed_right : {t : KRaw} (at : ℕ) (left right : KRaw) (n : ℕ) (ordered : Bool) → t ≡ Near at left right n ordered → IsFormed t → IsFormed right
unfolding shape-the_row-KRaw-0 hidden-the_row-KRaw-0 denote.Hole.Carrier.hidden
formed_right at left right n ordered is h =
    let formed = subst IsFormed is h in
    record { form = formed.form.1.0; short = omega (arith, formed.short) }

pub formed_matched : {t : KRaw} (at : ℕ) (matched ranked : KRaw) (cb : ℤ) → t ≡ Xrank at matched ranked cb → IsFormed t → IsFormed matched
unfolding shape-the_row-KRaw-0 hidden-the_row-KRaw-0 denote.Hole.Carrier.hidden
formed_matched at matched ranked cb is h =
    let formed = subst IsFormed is h in
    record { form = formed.form.0.0; short = omega (arith, formed.short) }

pub formed_ranked : {t : KRaw} (at : ℕ) (matched ranked : KRaw) (cb : ℤ) → t ≡ Xrank at matched ranked cb → IsFormed t → IsFormed ranked
unfolding shape-the_row-KRaw-0 hidden-the_row-KRaw-0 denote.Hole.Carrier.hidden
formed_ranked at matched ranked cb is h =
    let formed = subst IsFormed is h in
    record { form = formed.form.1.0; short = omega (arith, formed.short) }

pub formed_and : {t : KRaw} (at : ℕ) (parts : List KRaw) → t ≡ And at parts → IsFormed t → All IsFormed parts
formed_and at parts is h =
    let formed = subst IsFormed is h in
    formed_list parts formed.form.1 formed.short

pub formed_or : {t : KRaw} (at : ℕ) (parts : List KRaw) → t ≡ Or at parts → IsFormed t → All IsFormed parts
formed_or at parts is h =
    let formed = subst IsFormed is h in
    formed_list parts formed.form.1 formed.short

pub formed_run : {t : KRaw} (at : ℕ) (operands : List KRawOperand) → t ≡ Run at operands → IsFormed t → All (λ operand. IsFormed operand.tree) operands
formed_run at operands is h =
    let formed = subst IsFormed is h in
    formed_operands operands formed.form.1 formed.short

pub formed_value : {t : KRaw} (at : ℕ) (name : List ℕ) (relation : Relation) (value : Piece) (upper : Option Piece) → t ≡ Restrict at name relation value upper →
    IsFormed t → IsValue value
formed_value at name relation value upper is h =
    let formed = subst IsFormed is h in
    record { starless = formed.form.0; short = omega (arith, formed.short) }
