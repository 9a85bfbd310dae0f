-- The texts of a table stay where they are while its buffer grows.
use Rattle.std.proofs.Common.{◌≡◌, ℕ, ◌-◌, ◌<◌, ◌≤◌, List, [], ◌∷◌, ◌++◌, length, take, drop, refl, sym, ap, ap₂, subst, ◌∙◌, arith, ◌⊎◌, inl, inr, length-append}
use Rattle.std.proofs.Math.Seq.{drop-append_seam, take-length}
use Rattle.std.proofs.lemmas.Bool.{cases_lt}
use Rattle.std.proofs.lemmas.List.{drop-append-le, take-append-le, get_or_append_left, length-drop, map-append}
use Rattle.std.proofs.lemmas.List.Elements.{All-head, All-tail, All-weaker, All-push}
use Rattle.std.proofs.lemmas.Str.{IsCharBoundary-at_seam, IsCharBoundary-end}
use Rattle.std.specs.List.{All}
use Rattle.std.specs.Str.{IsUtf8, IsCharBoundary}
use Rattle.sq_stored.specs.declared.texts.Span.{Span}
use Rattle.sq_stored.specs.Texts.{text_at, texts_at, IsSpanOf}

IsCharBoundary-append : (xs ys : List ℕ) (i : ℕ) → IsUtf8 ys → IsCharBoundary xs i → IsCharBoundary (xs ++ ys) i
IsCharBoundary-append xs ys i u b = by_place (cases_lt i (length xs))
  where
    by_place : (i < length xs) ⊎ (length xs ≤ i) → IsCharBoundary (xs ++ ys) i
    by_place (inl inside) = (omega (arith, length-append xs ys, b.0), λ _. rw (get_or_append_left xs ys 0 i inside) (b.1 inside))
    by_place (inr past) =
        let at_end : length xs ≡ i = omega (arith, b.0) in
        subst (IsCharBoundary (xs ++ ys)) at_end (IsCharBoundary-at_seam (xs ++ ys) xs ys refl u)

pub IsSpanOf-append : (buffer more : List ℕ) (span : Span) → IsUtf8 more → IsSpanOf buffer span → IsSpanOf (buffer ++ more) span
IsSpanOf-append buffer more span u is = record {
  ordered = is.ordered;
  start = IsCharBoundary-append buffer more span.start u is.start;
  end = IsCharBoundary-append buffer more span.end u is.end;
}

pub All-IsSpanOf-append : (buffer more : List ℕ) (spans : List Span) → IsUtf8 more → All (IsSpanOf buffer) spans → All (IsSpanOf (buffer ++ more)) spans
All-IsSpanOf-append buffer more spans u all =
    All-weaker (IsSpanOf buffer) (IsSpanOf (buffer ++ more)) (λ span is. IsSpanOf-append buffer more span u is) spans all

text_at-append : (buffer more : List ℕ) (span : Span) → IsSpanOf buffer span → text_at (buffer ++ more) span ≡ text_at buffer span
text_at-append buffer more span is =
    ap (take (span.end - span.start)) (drop-append-le span.start buffer more is.start.0)
    ∙ take-append-le (span.end - span.start) (drop span.start buffer) more (omega (arith, length-drop span.start buffer, is.end.0))

pub texts_at-append : (buffer more : List ℕ) (spans : List Span) → All (IsSpanOf buffer) spans → texts_at (buffer ++ more) spans ≡ texts_at buffer spans
texts_at-append buffer more [] all = refl
texts_at-append buffer more (span ∷ spans) all =
    ap₂ (λ t ts. t ∷ ts) (text_at-append buffer more span (All-head (IsSpanOf buffer) span spans all))
    (texts_at-append buffer more spans (All-tail (IsSpanOf buffer) span spans all))

-- a text behind the buffer, and its span behind the table
module _ (buffer text grown : List ℕ) (spans : List Span) (all : All (IsSpanOf buffer) spans) (u : IsUtf8 text) (grows : grown ≡ buffer ++ text) where
  pub texts_at-same : texts_at grown spans ≡ texts_at buffer spans
  texts_at-same = ap (λ b. texts_at b spans) grows ∙ texts_at-append buffer text spans all

  pub All-IsSpanOf-same : All (IsSpanOf grown) spans
  All-IsSpanOf-same = subst (λ b. All (IsSpanOf b) spans) (sym grows) (All-IsSpanOf-append buffer text spans u all)

  module _ (last : Span) (start : last.start ≡ length buffer) (end : last.end ≡ length grown) where
    text_at-last : text_at grown last ≡ text
    text_at-last =
        let size : last.end - last.start ≡ length text = omega (arith, start, end, ap length grows, length-append buffer text) in
        ap₂ take size (ap₂ drop start grows ∙ drop-append_seam buffer text) ∙ take-length text

    pub texts_at-push : texts_at grown (spans ++ last ∷ []) ≡ texts_at buffer spans ++ text ∷ []
    texts_at-push = map-append (text_at grown) spans (last ∷ []) ∙ ap₂ (λ ts t. ts ++ t ∷ []) texts_at-same text_at-last

    pub All-IsSpanOf-push : IsUtf8 grown → All (IsSpanOf grown) (spans ++ last ∷ [])
    All-IsSpanOf-push whole = All-push (IsSpanOf grown) spans last All-IsSpanOf-same (record {
      ordered = omega (arith, start, end, ap length grows, length-append buffer text);
      start = subst (IsCharBoundary grown) (sym start) (subst (λ b. IsCharBoundary b (length buffer)) (sym grows) (IsCharBoundary-at_seam (buffer ++ text) buffer text refl u));
      end = subst (IsCharBoundary grown) (sym end) (IsCharBoundary-end grown);
    })
