-- Worked examples of typing FQL. What tokens a text has is a premise, since the tables of Unicode are too long to compute with.
use Rattle.std.proofs.Common.{◌≡◌, ℕ, Bool, true, false, List, [], ◌∷◌, None, refl, pos, neg_ℤ}
use Rattle.std.specs.Prelude.{codes, Ok}
use Rattle.sq_schema.specs.declared.property.Property.{Property}
use Rattle.sq_schema.specs.declared.property.Kind.{Kind}
use Rattle.sq_schema.specs.declared.property.Kind.TheVariants as kind
use Rattle.sq_schema.specs.Properties.{has_name}
use Rattle.sq_schema.specs.Words.{is_same_word}
use Rattle.sq_schema.specs.Values.{number_of, is_numeral, behind_minus}
use Rattle.sq_tokens.specs.Token.{text_tokens}
use Rattle.sq_tokens.specs.Pattern.{Phrase, without_good_star, first_bad_star}
use Rattle.sq_model.specs.declared.fql.FTree.TheVariants as tree
use Rattle.sq_base.specs.Outcome.{refused}
use Rattle.sq_fql.specs.declared.raw.FPiece.{FPiece}
use Rattle.sq_fql.specs.declared.raw.Op.TheVariants as op
use Rattle.sq_fql.specs.declared.raw.FRaw.{FRaw}
use Rattle.sq_fql.specs.declared.raw.FRaw.TheVariants as raw
use Rattle.sq_fql.specs.declared.raw.FRaw.TheBlock.{shape-the_row-FRaw-0, hidden-the_row-FRaw-0, shape-the_row-FRaw-1, hidden-the_row-FRaw-1}
use Rattle.sq_typing.specs.FqlPlaces.{opened, entered}
use Rattle.sq_typing.specs.FqlTexts.{pattern_in}
use Rattle.sq_typing.specs.FqlNumbers.{number_in, lower_bound, upper_bound, literal_value, between}
use Rattle.sq_typing.proofs.FqlLemmas.{tokenless_pattern}
use Rattle.sq_typing.specs.Fql.{proximity, applied, fql_typed}

-- what unfolds where a tree is built from lists
unfoldable lists : Unit {0}
unfolding shape-the_row-FRaw-0 hidden-the_row-FRaw-0 shape-the_row-FRaw-1 hidden-the_row-FRaw-1 denote.Hole.Carrier.hidden
lists = tt

abbrev row : List ℕ → Kind → Bool → Property
row name k searchable = record { name = name; kind = k; searchable = searchable; multi = false; refinable = false }

abbrev schema : List Property
schema =
    row (codes "title") kind.Text true ∷ row (codes "body") kind.Text true ∷ row (codes "author") kind.Text false ∷ row (codes "filetype") kind.Text false
    ∷ row (codes "size") kind.Integer false ∷ row (codes "write") kind.DateTime false ∷ row (codes "public") kind.YesNo false ∷ []

abbrev piece : ℕ → List ℕ → FPiece
piece at text = record { at = at; text = text }

abbrev literal : ℕ → List ℕ → FRaw
literal at text = raw.Literal (piece at text)

-- title:body:x
a_scope_in_a_scope : fql_typed schema (raw.Scope 0 (codes "title") (raw.Scope 6 (codes "body") (literal 11 (codes "x")))) ≡ refused 309 6
unfolding lists entered opened has_name is_same_word
a_scope_in_a_scope = refl

-- int(5)
a_number_outside_of_a_scope : fql_typed schema (raw.Apply 0 op.Int (literal 4 (codes "5") ∷ [])) ≡ refused 310 0
unfolding lists applied
a_number_outside_of_a_scope = refl

-- near(a,and(b,c))
and_inside_near : (a : Phrase) → pattern_in (piece 5 (codes "a")) ≡ Ok a →
    fql_typed schema (raw.Apply 0 (op.Near 4) (literal 5 (codes "a") ∷ (raw.Apply 7 op.And (literal 11 (codes "b") ∷ literal 13 (codes "c") ∷ [])) ∷ [])) ≡ refused 308 7
unfolding lists applied proximity
and_inside_near a has = rw has refl

-- size:99999999999999999999
a_number_too_great : fql_typed schema (raw.Scope 0 (codes "size") (literal 5 (codes "99999999999999999999"))) ≡ refused 304 5
unfolding lists entered opened has_name is_same_word number_in number_of is_numeral behind_minus
a_number_too_great = refl

-- "&"
a_literal_without_a_token : first_bad_star (codes "&") ≡ None → text_tokens (without_good_star (codes "&")) ≡ [] → fql_typed schema (literal 0 (codes "&")) ≡ refused 307 0
a_literal_without_a_token starless none = rw (tokenless_pattern (piece 0 (codes "&")) starless none) refl

-- size:range(min,5,from=GT): above the least number, up to 5
above_the_least : fql_typed schema (raw.Scope 0 (codes "size") (raw.Apply 5 (op.Range true false) (literal 11 (codes "min") ∷ literal 15 (codes "5") ∷ [])))
    ≡ Ok (tree.Within 4 (neg_ℤ (pos 9_223_372_036_854_775_807)) (pos 5))
unfolding lists entered opened has_name is_same_word applied lower_bound upper_bound literal_value between number_in number_of is_numeral behind_minus
above_the_least = refl
