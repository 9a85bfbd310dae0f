-- Worked queries of the archive's schema about 2024-02-29T12:00:00Z, typed or refused.
use Rattle.std.proofs.Common.{◌≡◌, ℕ, true, false, List, [], ◌∷◌, map, Some, None, pos, refl}
use Rattle.std.specs.Prelude.{codes, Ok}
use Rattle.jiff_core.specs.Calendar.{days_from_civil, day_count, days_of_years, days_of_months, weekday_number}
use Rattle.sq_schema.specs.declared.property.Kind.{Kind}
use Rattle.sq_schema.specs.declared.property.Kind.TheVariants as kind
use Rattle.sq_schema.specs.declared.property.Property.{Property}
use Rattle.sq_schema.specs.Dates.{is_date, day_number, day_of, interval_of_day, interval_of}
use Rattle.sq_schema.specs.Civil.{civil_of_day, year_from, month_from}
use Rattle.sq_schema.specs.Intervals.{interval_in, moment_interval, whole_days}
use Rattle.sq_schema.specs.Properties.{has_name}
use Rattle.sq_schema.specs.Shapes.{begins_with, two_digits}
use Rattle.sq_schema.specs.Values.{is_numeral, behind_minus, number_of, yes_no_of}
use Rattle.sq_schema.specs.Words.{is_same_word}
use Rattle.sq_tokens.specs.Token.{text_tokens}
use Rattle.sq_model.specs.declared.kql.KOperand.{KOperand}
use Rattle.sq_model.specs.declared.kql.Sign.TheVariants as model
use Rattle.sq_model.specs.declared.kql.Relation.TheVariants as relation
use Rattle.sq_model.specs.declared.kql.KTree.{KTree}
use Rattle.sq_model.specs.declared.kql.KTree.TheVariants as tree
use Rattle.sq_model.specs.declared.kql.KTree.TheBlock.{shape-the_row-KTree-0, hidden-the_row-KTree-0, shape-the_row-KTree-2, hidden-the_row-KTree-2}
use Rattle.sq_lex.specs.declared.lexeme.Relation.{Relation}
use Rattle.sq_lex.specs.declared.lexeme.Relation.TheVariants as spelled
use Rattle.sq_base.specs.Outcome.{Outcome, refused}
use Rattle.sq_kql.specs.declared.raw.Piece.{Piece}
use Rattle.sq_kql.specs.declared.raw.RawSign.TheVariants as sign
use Rattle.sq_kql.specs.declared.raw.KRaw.{KRaw}
use Rattle.sq_kql.specs.declared.raw.KRaw.TheVariants as raw
use Rattle.sq_kql.specs.declared.raw.KRaw.TheBlock.{shape-the_row-KRaw-0, hidden-the_row-KRaw-0, hidden-the_row-KRaw-2, hidden-the_row-KRawOperand-1}
use Rattle.sq_kql.specs.Node.{operand_of}
use Rattle.sq_typing.specs.Together.{first_fault, all_of}
use Rattle.sq_typing.specs.KqlValues.{found, tested, literal, leaf_of, text_value, number_value, moment_value, yes_no_value}
use Rattle.sq_typing.specs.Kql.{typed, few_copies, with_few_copies}

-- what unfolds where a tree is built from lists
unfoldable lists : Unit {0}
unfolding shape-the_row-KRaw-0 hidden-the_row-KRaw-0 hidden-the_row-KRaw-2 hidden-the_row-KRawOperand-1 shape-the_row-KTree-0 hidden-the_row-KTree-0
    shape-the_row-KTree-2 hidden-the_row-KTree-2 denote.Hole.Carrier.hidden
lists = tt

-- what unfolds where a restriction is judged
unfoldable restrictions : Unit {0}
unfolding found tested has_name is_same_word number_value number_of behind_minus is_numeral yes_no_value yes_no_of first_fault
restrictions = tt

-- what unfolds where a day is read
unfoldable days : Unit {0}
unfolding moment_value interval_of day_of begins_with two_digits day_number is_date interval_of_day whole_days days_from_civil day_count days_of_years days_of_months
    weekday_number moment_interval civil_of_day year_from month_from interval_in
days = tt

abbrev property : List ℕ → Kind → Property
property name kind = record { name = name; kind = kind; searchable = false; multi = false; refinable = false }

abbrev schema : List Property
schema =
    property (codes "title") kind.Text ∷ property (codes "body") kind.Text ∷ property (codes "author") kind.Text ∷ property (codes "filetype") kind.Text
    ∷ property (codes "size") kind.Integer ∷ property (codes "write") kind.DateTime ∷ property (codes "public") kind.YesNo ∷ []

abbrev here : KRaw → Outcome KTree
here t = typed schema (pos 1_709_208_000) t

abbrev piece : ℕ → List ℕ → Piece
piece at text = record { at = at; text = text }

abbrev restrict : ℕ → List ℕ → Relation → ℕ → List ℕ → KRaw
restrict at name r place text = raw.Restrict at name r (piece place text) None

abbrev free : ℕ → List ℕ → KRaw
free at text = raw.Free (piece at text)

abbrev operand : KTree → KOperand
operand t = record { sign = model.Minus; tree = t }

-- `size<abc colour:red`
the_first_fault : here (raw.Run 0 (operand_of sign.Plain 0 (restrict 0 (codes "size") spelled.Less 5 (codes "abc"))
    ∷ operand_of sign.Plain 9 (restrict 9 (codes "colour") spelled.Has 16 (codes "red")) ∷ [])) ≡ refused 303 5
unfolding lists restrictions
the_first_fault = refl

-- `size<abc`, `colour:red`, `title<a`, `public:maybe`, `SIZE:99999999999999999999`
faults : map here (restrict 0 (codes "size") spelled.Less 5 (codes "abc") ∷ restrict 0 (codes "colour") spelled.Has 7 (codes "red")
    ∷ restrict 0 (codes "title") spelled.Less 6 (codes "a") ∷ restrict 0 (codes "public") spelled.Has 7 (codes "maybe")
    ∷ restrict 0 (codes "SIZE") spelled.Has 5 (codes "99999999999999999999") ∷ [])
    ≡ refused 303 5 ∷ refused 301 0 ∷ refused 302 0 ∷ refused 306 7 ∷ refused 304 5 ∷ []
unfolding restrictions
faults = refl

-- `write:2024-02-29`, `write<>2024-02-29`, `write:2023-02-29`, `write:today`, `write:"this week"`
dates : map here (restrict 0 (codes "write") spelled.Has 6 (codes "2024-02-29") ∷ restrict 0 (codes "write") spelled.Unequal 7 (codes "2024-02-29")
    ∷ restrict 0 (codes "write") spelled.Has 6 (codes "2023-02-29") ∷ restrict 0 (codes "write") spelled.Has 6 (codes "today")
    ∷ restrict 0 (codes "write") spelled.Has 6 (codes "this week") ∷ [])
    ≡ Ok (tree.ValueTest 5 relation.Has (pos 1_709_164_800) (pos 1_709_251_199)) ∷ Ok (tree.ValueTest 5 relation.Unequal (pos 1_709_164_800) (pos 1_709_251_199))
    ∷ refused 305 6 ∷ Ok (tree.ValueTest 5 relation.Has (pos 1_709_164_800) (pos 1_709_251_199))
    ∷ Ok (tree.ValueTest 5 relation.Has (pos 1_708_905_600) (pos 1_709_510_399)) ∷ []
unfolding restrictions days
dates = refl

-- `write=2024-02-29..2024-02-29`, `size=a..b`, `size=5..7`
ranges : map here (raw.Restrict 0 (codes "write") spelled.Range (piece 6 (codes "2024-02-29")) (Some (piece 18 (codes "2024-02-29")))
    ∷ raw.Restrict 0 (codes "size") spelled.Range (piece 5 (codes "a")) (Some (piece 8 (codes "b")))
    ∷ raw.Restrict 0 (codes "size") spelled.Range (piece 5 (codes "5")) (Some (piece 8 (codes "7"))) ∷ [])
    ≡ Ok (tree.ValueTest 5 relation.Range (pos 1_709_164_800) (pos 1_709_251_199)) ∷ refused 303 5 ∷ Ok (tree.ValueTest 4 relation.Range (pos 5) (pos 7)) ∷ []
unfolding restrictions days
ranges = refl

-- `acquisition ONEAR(n=2) debt`
near : here (raw.Near 0 (free 0 (codes "acquisition")) (free 23 (codes "debt")) 2 true)
    ≡ Ok (tree.Near (tree.Free (leaf_of (codes "acquisition"))) (tree.Free (leaf_of (codes "debt"))) 2 true)
unfolding lists with_few_copies
near = refl

-- `a NEAR colour:red`, `a NEAR title<a`, `a NEAR size:abc`, `a NEAR (size:abc x)`, `a NEAR *`
misplaced : map here (raw.Near 0 (free 0 (codes "a")) (restrict 7 (codes "colour") spelled.Has 14 (codes "red")) 8 false
    ∷ raw.Near 0 (free 0 (codes "a")) (restrict 7 (codes "title") spelled.Less 13 (codes "a")) 8 false
    ∷ raw.Near 0 (free 0 (codes "a")) (restrict 7 (codes "size") spelled.Has 12 (codes "abc")) 8 false
    ∷ raw.Near 0 (free 0 (codes "a")) (raw.Group 7 (raw.Run 8 (operand_of sign.Plain 8 (restrict 8 (codes "size") spelled.Has 13 (codes "abc"))
    ∷ operand_of sign.Plain 17 (free 17 (codes "x")) ∷ []))) 8 false
    ∷ raw.Near 0 (free 0 (codes "a")) (raw.All 7) 8 false ∷ []) ≡ refused 301 7 ∷ refused 302 7 ∷ refused 308 7 ∷ refused 308 8 ∷ refused 308 7 ∷ []
unfolding lists restrictions
misplaced = refl

-- `title:&`, which has no token
no_token : text_tokens (codes "&") ≡ [] → here (restrict 0 (codes "title") spelled.Has 6 (codes "&")) ≡ refused 307 6
unfolding restrictions text_value literal
no_token none = rw none refl

-- `-debt`
minus : here (raw.Run 0 (operand_of sign.Minus 0 (free 1 (codes "debt")) ∷ [])) ≡ Ok (tree.Run (operand (tree.Free (leaf_of (codes "debt"))) ∷ []))
unfolding lists
minus = refl

-- too many forms go behind every other fault, and of one place the lower code goes first
the_order : map (all_of {A = ℕ}) ((refused 311 0 ∷ refused 301 7 ∷ []) ∷ (refused 301 7 ∷ refused 311 0 ∷ []) ∷ (refused 308 7 ∷ refused 302 7 ∷ [])
    ∷ (refused 311 9 ∷ Ok 1 ∷ refused 311 2 ∷ []) ∷ (Ok 1 ∷ Ok 2 ∷ []) ∷ [])
    ≡ refused 301 7 ∷ refused 301 7 ∷ refused 302 7 ∷ refused 311 2 ∷ Ok (1 ∷ 2 ∷ []) ∷ []
unfolding first_fault
the_order = refl

-- chains of NEAR over alternatives of one and of two tokens
abbrev leaf : List (List ℕ) → KTree
leaf texts = tree.Free (record { text = []; pattern = record { texts = texts; prefixed = false } })

abbrev one_or_two : KTree
one_or_two = tree.Or (leaf (codes "old" ∷ codes "bank" ∷ []) ∷ leaf (codes "merger" ∷ []) ∷ [])

abbrev beside : KTree → KTree
beside left = tree.Near left one_or_two 8 false

many_forms : few_copies 3 (Ok (beside (beside (beside (beside one_or_two))))) ≡ refused 311 3
unfolding lists with_few_copies
many_forms = refl

few_forms : few_copies 3 (Ok (beside (beside (beside one_or_two)))) ≡ Ok (beside (beside (beside one_or_two)))
unfolding lists with_few_copies
few_forms = refl
