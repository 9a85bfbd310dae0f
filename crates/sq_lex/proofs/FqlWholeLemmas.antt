-- Lexemes of FQL begin and end between characters.
use Rattle.std.proofs.Common.{◌≡◌, ℕ, ◌+◌, ◌-◌, ◌<◌, ◌≤◌, length, drop, get_or, sym, subst, ◌∙◌, ap, length-drop, arith}
use Rattle.std.proofs.lemmas.Str.{IsCharBoundary-before_ascii, IsCharBoundary-after_ascii}
use Rattle.std.proofs.lemmas.List.{get_or-drop}
use Rattle.std.specs.Str.{IsUtf8, IsCharBoundary}
use Rattle.sq_lex.specs.declared.fql_lexeme.FKind.{FKind}
use Rattle.sq_lex.specs.declared.fql_lexeme.FKind.TheVariants as kind
use Rattle.sq_lex.specs.Bytes.{TextBytes}
use Rattle.sq_lex.specs.Fql.{lexeme}
use Rattle.sq_lex.specs.FqlWhole.{HasInside, IsWhole}

pub mark_whole : (z : TextBytes) (at : ℕ) (k : FKind) → IsUtf8 z → IsCharBoundary z at → at < length z → get_or z at 0 < 128 → HasInside z at (at + 1) k → IsWhole z (lexeme k at (at + 1))
mark_whole z at k utf8 start within ascii inside = record {
  some = omega arith;
  piece = record { ordered = omega arith; start = start; end = IsCharBoundary-after_ascii z at utf8 within ascii };
  inside = inside;
}

pub string_whole : (z : TextBytes) (at close : ℕ) → IsUtf8 z → get_or z at 0 ≡ 34 → (at + 1 ≤ close) × (close < at + 1 + length (drop (at + 1) z))
    → get_or (drop (at + 1) z) (close - (at + 1)) 0 ≡ 34 → IsWhole z (lexeme kind.Str at (close + 1))
string_whole z at close utf8 opens between closes =
    let after : at + 1 ≤ close = between.0 in
    let within : close < length z = omega (arith, between.1, length-drop (at + 1) z) in
    let place : at + 1 + (close - (at + 1)) ≡ close = omega arith in
    let quote : get_or z close 0 ≡ 34 = ap (λ i. get_or z i 0) (sym place) ∙ (sym (get_or-drop (at + 1) z (close - (at + 1)) 0) ∙ closes) in
    let opening : get_or z at 0 < 128 = omega arith in
    let closing : get_or z close 0 < 128 = omega arith in
    let behind : close + 1 - 1 ≡ close = omega arith in
    let Between : ℕ → Type 0 = λ n. IsCharBoundary z n in
    record {
      some = omega arith;
      piece = record {
        ordered = omega arith;
        start = IsCharBoundary-before_ascii z at (omega arith) opening;
        end = IsCharBoundary-after_ascii z close utf8 within closing;
      };
      inside = record {
        ordered = omega arith;
        start = IsCharBoundary-after_ascii z at utf8 (omega arith) opening;
        end = subst Between (sym behind) (IsCharBoundary-before_ascii z close within closing);
      };
    }
