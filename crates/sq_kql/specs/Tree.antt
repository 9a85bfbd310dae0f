-- The tree of lexemes, read from left to right. From tight to loose: parentheses; NEAR and ONEAR, to the left; signs; runs; AND; OR; XRANK, to the left.
use Rattle.std.specs.Prelude.{ℕ, ℤ, Bool, true, false, ◌==◌, if◌then◌else◌, List, [], ◌∷◌, ◌++◌, length, fold, slice_range, Option, Some, None, Ok}
use Rattle.std.specs.Option.{option_map}
use Rattle.sq_lex.specs.declared.lexeme.Cut.{Cut}
use Rattle.sq_lex.specs.declared.lexeme.Relation.{Relation}
use Rattle.sq_lex.specs.declared.lexeme.KKind.{KKind}
use Rattle.sq_lex.specs.declared.lexeme.KKind.TheVariants as kind
use Rattle.sq_lex.specs.declared.lexeme.KLexeme.{KLexeme}
use Rattle.sq_lex.specs.Bytes.{TextBytes}
use Rattle.sq_base.specs.Outcome.{Outcome, ◌>>=◌, ◌>>◌}
use Rattle.sq_lex.specs.Kql.{lexemes_of}
use Rattle.sq_kql.specs.declared.raw.Piece.{Piece}
use Rattle.sq_kql.specs.declared.raw.RawSign.{RawSign}
use Rattle.sq_kql.specs.declared.raw.RawSign.TheVariants as sign
use Rattle.sq_kql.specs.declared.raw.KRawOperand.{KRawOperand}
use Rattle.sq_kql.specs.declared.raw.KRaw.{KRaw}
use Rattle.sq_kql.specs.declared.raw.KRaw.TheVariants as tree
use Rattle.sq_kql.specs.declared.level.Sign.{Sign}
use Rattle.sq_kql.specs.declared.level.Placed.{Placed}
use Rattle.sq_kql.specs.declared.level.Operand.{Operand}
use Rattle.sq_kql.specs.declared.level.Parts.{Parts}
use Rattle.sq_kql.specs.declared.level.Nearing.{Nearing}
use Rattle.sq_kql.specs.declared.level.Ranking.{Ranking}
use Rattle.sq_kql.specs.declared.level.Level.{Level}
use Rattle.sq_kql.specs.declared.level.Outer.{Outer}
use Rattle.sq_kql.specs.declared.level.Listing.{Listing}
use Rattle.sq_kql.specs.declared.level.Reading.{Reading}
use Rattle.sq_kql.specs.Node.{piece, operand_of}
use Rattle.sq_kql.specs.Order.{order}

-- ---- nodes

abbrev pub placed : ℕ → KRaw → Placed
placed at t = record { at = at; tree = t }

-- an operand with its sign, if it has one
abbrev pub operand : Option Sign → Placed → Operand
operand None p = record { sign = sign.Plain; at = p.at; tree = p.tree }
operand (Some s) p = record { sign = s.sign; at = s.at; tree = p.tree }

abbrev pub operand_node : Operand → KRawOperand
operand_node o = operand_of o.sign o.at o.tree

abbrev pub run_of : Operand → List KRawOperand → Placed
run_of o others = placed o.at (tree.Run o.at (operand_node o ∷ others))

abbrev pub lone : RawSign → Operand → Placed
lone sign.Plain o = placed o.at o.tree
lone _ o = run_of o []

-- a run of one plain operand is that operand
unfoldable pub run_node : Option Operand → List KRawOperand → Placed
run_node None others = placed 0 (tree.Run 0 others)
run_node (Some o) [] = lone o.sign o
run_node (Some o) (p ∷ others) = run_of o (p ∷ others)

abbrev pub no_parts : Parts
no_parts = record { at = 0; trees = [] }

-- one more part
unfoldable pub with_part : Parts → Placed → Parts
with_part ps p = record { at = if length ps.trees == 0 then p.at else ps.at; trees = ps.trees ++ p.tree ∷ [] }

-- one part stands for itself
abbrev pub one_or : KRaw → List KRaw → KRaw
one_or many [] = many
one_or many (t ∷ []) = t
one_or many (t ∷ (u ∷ ts)) = many

unfoldable pub and_node : Parts → Placed
and_node ps = placed ps.at (one_or (tree.And ps.at ps.trees) ps.trees)

unfoldable pub or_node : Parts → Placed
or_node ps = placed ps.at (one_or (tree.Or ps.at ps.trees) ps.trees)

abbrev pub near_node : Nearing → Placed → Placed
near_node n p = placed n.left.at (tree.Near n.left.at n.left.tree p.tree n.n n.ordered)

abbrev pub xrank_node : Ranking → Placed → Placed
xrank_node r p = placed r.matched.at (tree.Xrank r.matched.at r.matched.tree p.tree r.cb)

-- ---- one level of parentheses

abbrev pub fresh : Option Ranking → Level
fresh ranking = record { ranking = ranking; ors = no_parts; ands = no_parts; first = None; others = []; sign = None; nearing = None; last = None }

-- the operand that was had joins the run, with its sign
abbrev pub join_run : Option Operand → Operand → Level → Level
join_run None o l = record l { first = Some o; sign = None; last = None }
join_run (Some f) o l = record l { others = l.others ++ operand_node o ∷ []; sign = None; last = None }

abbrev pub closed_by : Option Placed → Level → Level
closed_by None l = l
closed_by (Some p) l = join_run l.first (operand l.sign p) l

unfoldable pub closed : Level → Level
closed l = closed_by l.last l

abbrev pub with_operand_by : Option Nearing → Level → Placed → Level
with_operand_by None l p = record (closed l) { last = Some p }
with_operand_by (Some n) l p = record l { last = Some (near_node n p) }

-- an operand comes: the right side of a proximity operator, or a new one of the run
unfoldable pub with_operand : Level → Placed → Level
with_operand l p = with_operand_by l.nearing (record l { nearing = None }) p

unfoldable pub with_sign : RawSign → ℕ → Level → Level
with_sign s at l = record (closed l) { sign = Some (record { sign = s; at = at }) }

abbrev pub with_proximity_by : Option Placed → ℕ → Bool → Level → Level
with_proximity_by None n ordered l = l
with_proximity_by (Some p) n ordered l = record l { nearing = Some (record { left = p; n = n; ordered = ordered }); last = None }

unfoldable pub with_proximity : ℕ → Bool → Level → Level
with_proximity n ordered l = with_proximity_by l.last n ordered l

-- the run is whole
abbrev pub end_run : Level → Level
end_run c = record c { ands = with_part c.ands (run_node c.first c.others); first = None; others = [] }

unfoldable pub with_and : Level → Level
with_and l = end_run (closed l)

-- so are the parts of AND
abbrev pub end_and : Level → Level
end_and c = record c { ors = with_part c.ors (and_node c.ands); ands = no_parts }

unfoldable pub with_or : Level → Level
with_or l = end_and (with_and l)

abbrev pub ranked_by : Option Ranking → Placed → Placed
ranked_by None p = p
ranked_by (Some r) p = xrank_node r p

abbrev pub end_or : Level → Placed
end_or c = ranked_by c.ranking (or_node c.ors)

-- the tree of all that stands at a level
unfoldable pub whole : Level → Placed
whole l = end_or (with_or l)

unfoldable pub with_xrank : ℤ → Level → Level
with_xrank cb l = fresh (Some (record { matched = whole l; cb = cb }))

-- ---- lexemes

abbrev pub at_level : Reading → Level → Reading
at_level r l = record r { level = l }

-- free text is a piece of a list that is open, or else an operand
abbrev pub with_free : Option Listing → ℕ → Piece → Reading → Reading
with_free None at p r = at_level r (with_operand r.level (placed at (tree.Free p)))
with_free (Some l) at p r = record r { listing = Some (record l { pieces = l.pieces ++ p ∷ [] }) }

abbrev pub with_list : Option Listing → Reading → Reading
with_list None r = r
with_list (Some l) r = record r { level = with_operand r.level (placed l.at (tree.Words l.at l.pieces)); listing = None }

-- a list that is not empty, as what stands before its last item, and that item
abbrev pub split_on : {X : Type 0} → X → Option (List X × X) → List X × X
split_on x None = ([], x)
split_on x (Some (front, last)) = (x ∷ front, last)

abbrev pub split_last : {X : Type 0} → List X → Option (List X × X)
split_last [] = None
split_last (x ∷ xs) = Some (split_on x (split_last xs))

-- the innermost of the outer levels stands last
abbrev pub with_open : ℕ → Reading → Reading
with_open at r = record r { level = fresh None; outer = r.outer ++ record { level = r.level; at = at } ∷ [] }

abbrev pub group_node : ℕ → Level → Placed
group_node at inner = placed at (tree.Group at (whole inner).tree)

abbrev pub with_close : Option (List Outer × Outer) → Reading → Reading
with_close None r = r
with_close (Some (os, o)) r = record r { level = with_operand o.level (group_node o.at r.level); outer = os }

abbrev pub restriction_node : TextBytes → ℕ → ℕ → Relation → Cut → Option Cut → Placed
restriction_node z at name_to rel c upper = placed at (tree.Restrict at (slice_range z at name_to) rel (piece z c) (option_map (piece z) upper))

-- a level behind one more lexeme
abbrev pub shift_level : TextBytes → KKind → ℕ → Level → Level
shift_level z kind.All at l = with_operand l (placed at (tree.All at))
shift_level z (kind.Restrict name_to rel c upper) at l = with_operand l (restriction_node z at name_to rel c upper)
shift_level z kind.Plus at l = with_sign sign.Plus at l
shift_level z kind.Minus at l = with_sign sign.Minus at l
shift_level z kind.Not at l = with_sign sign.Minus at l
shift_level z kind.And at l = with_and l
shift_level z kind.Or at l = with_or l
shift_level z (kind.Near n) at l = with_proximity n false l
shift_level z (kind.Onear n) at l = with_proximity n true l
shift_level z (kind.Xrank cb) at l = with_xrank cb l
shift_level z _ at l = l

-- what is read behind one more lexeme
abbrev pub shift_kind : TextBytes → KKind → ℕ → Reading → Reading
shift_kind z (kind.Free c) at r = with_free r.listing at (piece z c) r
shift_kind z (kind.Words count) at r = record r { listing = Some (record { at = at; pieces = [] }) }
shift_kind z kind.WordsEnd at r = with_list r.listing r
shift_kind z kind.LeftParen at r = with_open at r
shift_kind z kind.RightParen at r = with_close (split_last r.outer) r
shift_kind z k at r = at_level r (shift_level z k at r.level)

abbrev pub shift : TextBytes → Reading → KLexeme → Reading
shift z r x = shift_kind z x.kind x.from r

abbrev pub nothing_read : Reading
nothing_read = record { level = fresh None; outer = []; listing = None }

-- the tree of lexemes that stand in order
unfoldable pub tree_of : TextBytes → List KLexeme → KRaw
tree_of z xs = (whole (fold (shift z) nothing_read xs).level).tree

-- the tree of a text, or its first fault: of its lexemes, and then of their order
unfoldable pub read_of : TextBytes → Outcome KRaw
read_of z = do
  xs ← lexemes_of z
  order (length z) xs
  Ok (tree_of z xs)
