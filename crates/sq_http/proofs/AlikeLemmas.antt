-- Equal answers give equal replies.
use Rattle.std.proofs.Common.{◌≡◌, ℕ, ◌++◌, Bool, List, [], ◌∷◌, refl, ap, ◌∙◌, arith}
use Rattle.std.proofs.lemmas.List.Elements.{Contains-append_right}
use Rattle.sq_http.specs.Alike.{AgreeOn}
use Rattle.sq_http.specs.Owed.{Owed, Interim, Refusal, Asking}
use Rattle.sq_http.specs.Replies.{Answering, answer_text, text_of, texts}

text_agrees : (one other : Answering) (x : Owed) → ((caller body : List ℕ) (closing : Bool) → x ≡ Asking caller body closing → one caller body ≡ other caller body)
    → text_of one x ≡ text_of other x
text_agrees one other Interim h = refl
text_agrees one other (Refusal status closing) h = refl
text_agrees one other (Asking caller body closing) h = ap (answer_text closing) (h caller body closing refl)

pub texts_agree : (one other : Answering) (all : List Owed) → AgreeOn all one other → texts one all ≡ texts other all
texts_agree one other [] h = refl
texts_agree one other (x ∷ rest) h =
    let here = text_agrees one other x (λ caller body closing is. h caller body closing (0, omega arith, is)) in
    let behind = texts_agree one other rest (λ caller body closing there. h caller body closing (Contains-append_right (x ∷ []) rest (Asking caller body closing) there)) in
    ap (λ t. t ++ texts one rest) here ∙ ap (λ t. text_of other x ++ t) behind
