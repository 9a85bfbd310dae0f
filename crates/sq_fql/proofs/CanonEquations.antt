-- The canonical text of a tree by its operands as a list, as code meets them.
use Rattle.std.proofs.Common.{◌≡◌, ℕ, ◌++◌, List, ◌∷◌, map, false, codes, refl, sym, subst, ap, ◌∙◌, append_assoc, append-nil, flat_map, chars, length, IsUtf8, encode_utf8, arith, []}
use Rattle.std.proofs.lemmas.Str.{chars_past_char, chars-nil}
use Rattle.std.specs.List.{All, AllByRecursion}
use Rattle.std.proofs.lemmas.List.Elements.{recursion_from_All}
use Rattle.sq_fql.specs.CanonLaw.{AreTexts, EachTexts}
use Rattle.sq_lex.specs.Bytes.{TextBytes}
use Rattle.sq_fql.specs.Canon.{canon, canon_each, escaped, listed, operator_word, parameters_text}
use Rattle.sq_fql.specs.declared.raw.Op.{Op}
use Rattle.sq_fql.specs.declared.raw.FRaw.{FRaw, Scope, Apply, Row_of-FRaw, end_of-FRaw, more_of-FRaw, items-the_row-FRaw, items_hidden-the_row-FRaw-1}
use Rattle.sq_fql.specs.declared.raw.FRaw.TheBlock.{shape-the_row-FRaw-0, hidden-the_row-FRaw-0, hidden-the_row-FRaw-1}

canon_of_row : {m : _} (row : Row_of-FRaw m) → canon_each row ≡ map canon (items-the_row-FRaw m row)
canon_of_row end_of-FRaw = refl
canon_of_row (more_of-FRaw tree rest) = ap (λ r. canon tree ∷ r) (canon_of_row rest)

canon_of_list : (trees : List FRaw) → canon_each (hidden-the_row-FRaw-1 trees) ≡ map canon trees
canon_of_list trees = canon_of_row (hidden-the_row-FRaw-1 trees) ∙ ap (map canon) (items_hidden-the_row-FRaw-1 trees)

pub canon_scope : (at : ℕ) (name : TextBytes) (inner : FRaw) → canon (Scope at name inner) ≡ name ++ codes ":" ++ canon inner
unfolding shape-the_row-FRaw-0 hidden-the_row-FRaw-0 denote.Hole.Carrier.hidden
canon_scope at name inner = refl

pub canon_apply : (at : ℕ) (o : Op) (operands : List FRaw) → canon (Apply at o operands) ≡ operator_word o ++ codes "(" ++ listed false (map canon operands) ++ parameters_text o ++ codes ")"
canon_apply at o operands = ap (λ texts. operator_word o ++ codes "(" ++ listed false texts ++ parameters_text o ++ codes ")") (canon_of_list operands)

-- What is printed piece after piece.
module _ (tree : FRaw) (at : ℕ) (old x new : TextBytes) where
  pub scope_printed : (name : TextBytes) (inner : FRaw) → tree ≡ Scope at name inner → x ≡ old ++ name ++ codes ":" → new ≡ x ++ canon inner → new ≡ old ++ canon tree
  scope_printed name inner is first second =
      second ∙ (ap (λ l. l ++ canon inner) (first ∙ append_assoc old name (codes ":")) ∙ (append_assoc old (name ++ codes ":") (canon inner)
      ∙ ap (λ l. old ++ l) (sym (ap canon is ∙ canon_scope at name inner))))

  pub apply_printed : (o : Op) (operands shown : List FRaw) (y : TextBytes) → tree ≡ Apply at o operands → shown ≡ operands → x ≡ old ++ operator_word o ++ codes "("
      → y ≡ x ++ listed false (map canon shown) → new ≡ y ++ parameters_text o ++ codes ")" → new ≡ old ++ canon tree
  apply_printed o operands shown y is same first second third =
      let texts = listed false (map canon operands) in
      let head = operator_word o ++ codes "(" in
      let end = parameters_text o in
      let seen : y ≡ x ++ texts = second ∙ ap (λ l. x ++ listed false (map canon l)) same in
      let begun : y ≡ old ++ head ++ texts = seen ∙ ap (λ l. l ++ texts) (first ∙ append_assoc old (operator_word o) (codes "(")) in
      let done : y ++ end ≡ old ++ (head ++ texts ++ end) = ap (λ l. l ++ end) (begun ∙ append_assoc old head texts) ∙ append_assoc old (head ++ texts) end in
      third ∙ (ap (λ l. l ++ codes ")") done ∙ (append_assoc old (head ++ texts ++ end) (codes ")") ∙ ap (λ l. old ++ l) (sym (ap canon is ∙ canon_apply at o operands))))

-- a string's characters, one after the other
pub escaped_on : (front bytes rest whole : TextBytes) (c : ℕ) → IsUtf8 bytes → bytes ≡ encode_utf8 c ++ rest → front ++ flat_map escaped (chars bytes) ≡ whole
    → front ++ escaped c ++ flat_map escaped (chars rest) ≡ whole
escaped_on front bytes rest whole c utf8 cut kept = append_assoc front (escaped c) (flat_map escaped (chars rest)) ∙ (rw (chars_past_char bytes rest c utf8 cut) at kept)

pub escaped_end : (front rest whole : TextBytes) → length rest ≡ 0 → front ++ flat_map escaped (chars rest) ≡ whole → front ≡ whole
escaped_end front [] whole none kept = sym (append-nil front) ∙ (rw chars-nil at kept)
escaped_end front (c ∷ rest) whole none kept = absurd (omega arith)

pub ruleset canon_rules = (canon_scope, canon_apply)

-- ---- literals that are texts

each_of_row : {m : _} (row : Row_of-FRaw m) → AllByRecursion AreTexts (items-the_row-FRaw m row) → EachTexts row
each_of_row end_of-FRaw all = tt
each_of_row (more_of-FRaw part rest) all = (all.0, each_of_row rest all.1)

pub texts_scope : (tree inner : FRaw) (at : ℕ) (name : TextBytes) → tree ≡ Scope at name inner → AreTexts inner → AreTexts tree
unfolding shape-the_row-FRaw-0 hidden-the_row-FRaw-0 denote.Hole.Carrier.hidden
texts_scope tree inner at name is one = subst AreTexts (sym is) (one, tt)

pub texts_apply : (tree : FRaw) (operands shown : List FRaw) (at : ℕ) (o : Op) → tree ≡ Apply at o operands → shown ≡ operands → All AreTexts shown → AreTexts tree
texts_apply tree operands shown at o is same all =
    let every : AllByRecursion AreTexts operands = recursion_from_All AreTexts operands (subst (All AreTexts) same all) in
    subst AreTexts (sym is) (each_of_row (hidden-the_row-FRaw-1 operands) (subst (λ l. AllByRecursion AreTexts l) (sym (items_hidden-the_row-FRaw-1 operands)) every))
