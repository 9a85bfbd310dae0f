-- Worked canonical texts.
use Rattle.std.proofs.Common.{◌≡◌, [], ◌∷◌, refl}
use Rattle.std.specs.Prelude.{codes, negsuc, false}
use Rattle.std.specs.Str.{chars}
use Rattle.std.specs.Fmt.{digits}
use Rattle.sq_lex.specs.Bytes.{TextBytes}
use Rattle.sq_fql.specs.declared.raw.FRaw.{FRaw}
use Rattle.sq_fql.specs.declared.raw.FRaw.TheVariants as tree
use Rattle.sq_fql.specs.declared.raw.FRaw.TheBlock.{shape-the_row-FRaw-0, hidden-the_row-FRaw-0, hidden-the_row-FRaw-1}
use Rattle.sq_fql.specs.declared.raw.Mode.TheVariants as mode
use Rattle.sq_fql.specs.declared.raw.Op.TheVariants as op
use Rattle.sq_fql.specs.Canon.{canon}
use Rattle.sq_fql.specs.Read.{piece}

abbrev phrase : TextBytes → FRaw
phrase text = tree.Apply 0 (op.Str mode.Phrase 4) (piece 0 text ∷ [])

whole_query : canon (tree.Apply 0 op.AndNot (tree.Apply 0 op.And (tree.Apply 0 op.Or (phrase (codes "merger") ∷ phrase (codes "takeover") ∷ [])
    ∷ tree.Scope 0 (codes "size") (tree.Apply 0 (op.Range false false) (piece 0 (codes "5") ∷ piece 0 (codes "max") ∷ []))
    ∷ tree.Scope 0 (codes "author") (phrase (codes "ann smith")) ∷ tree.Scope 0 (codes "filetype") (phrase (codes "docx")) ∷ []) ∷ phrase (codes "draft") ∷ []))
    ≡ codes "andnot(and(or(string(\"merger\"),string(\"takeover\")),size:range(5,max,from=\"GE\",to=\"LE\"),author:string(\"ann smith\"),filetype:string(\"docx\")),string(\"draft\"))"
unfolding shape-the_row-FRaw-0 hidden-the_row-FRaw-0 hidden-the_row-FRaw-1 denote.Hole.Carrier.hidden chars lib.Utf8.encode
whole_query = refl

escapes : canon (piece 0 (codes "a\\\"b")) ≡ codes "\"a\\\\\\\"b\""
unfolding chars lib.Utf8.encode
escapes = refl

numbers : canon (tree.Apply 0 (op.Xrank (negsuc 9)) (tree.All 0 ∷ tree.Apply 0 (op.Near 4) (piece 0 (codes "-7") ∷ piece 0 (codes "min") ∷ []) ∷ [])) ≡ codes "xrank(*,near(-7,min,N=4),cb=-10)"
unfolding shape-the_row-FRaw-0 hidden-the_row-FRaw-0 hidden-the_row-FRaw-1 denote.Hole.Carrier.hidden digits
numbers = refl

strings : canon (tree.Apply 0 (op.Str mode.Onear 4) (piece 0 (codes "-") ∷ [])) ≡ codes "string(\"-\",mode=\"ONEAR\",N=4)"
unfolding shape-the_row-FRaw-0 hidden-the_row-FRaw-0 hidden-the_row-FRaw-1 denote.Hole.Carrier.hidden chars lib.Utf8.encode digits
strings = refl
