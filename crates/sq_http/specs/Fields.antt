-- The fields that headers cover.
use Rattle.std.specs.Prelude.{ℕ, List, [], ◌∷◌, map, filter, suc, if◌then◌else◌, ◌==◌}
use Rattle.httparse.specs.declared.spans.HeaderSpan.{HeaderSpan}
use Rattle.httparse.specs.Spans.{header_bytes}
use Rattle.sq_http.specs.Owed.{is_word}

-- the values of the fields of a name, which is given in lower case
abbrev pub values_in : List ℕ → List (List ℕ × List ℕ) → List (List ℕ)
values_in name fields = map (λ field. field.1) (filter (λ field. is_word name field.0) fields)

-- the same, of the fields that headers cover
abbrev pub values_at : List ℕ → List ℕ → List HeaderSpan → List (List ℕ)
values_at name head headers = values_in name (map (header_bytes head) headers)

-- how many bytes stand before the first comma
abbrev pub member_end : List ℕ → ℕ
member_end [] = 0
member_end (b ∷ bytes) = if b == 44 then 0 else suc (member_end bytes)
