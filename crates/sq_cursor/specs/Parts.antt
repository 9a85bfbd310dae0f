-- Parts of a union, and in which order they stand.
use Rattle.std.specs.Prelude.{◌≡◌, ℕ, ◌+◌, ◌*◌, ◌<◌, ◌≤◌, Bool, true, false, nat_lt, List, Option, Some, None, length, slice_index_or}
use Rattle.std.proofs.Props.{props}
use Rattle.sq_cursor.specs.Rows.{first_row}

-- a row is after another, where none at all is after each
abbrev pub is_after : Option ℕ → Option ℕ → Bool
is_after None None = false
is_after None (Some y) = true
is_after (Some x) None = false
is_after (Some x) (Some y) = nat_lt y x

-- whether the first row of part a is after that of part b
abbrev pub stands_after : {X : Type 0} → (X → List ℕ) → X → X → Bool
stands_after left a b = is_after (first_row (left a)) (first_row (left b))

-- no part from low on stands after its children in the heap: those of p are at 2p + 1 and 2p + 2
abbrev pub IsHeapFrom : {X : Type 0} → (X → List ℕ) → ℕ → List X → Type 0
IsHeapFrom {X} left low parts = (p k : ℕ) (d : X) → low ≤ p → p * 2 + 1 ≤ k → k ≤ p * 2 + 2 → k < length parts →
    stands_after left (slice_index_or parts p d) (slice_index_or parts k d) ≡ false

abbrev pub IsHeap : {X : Type 0} → (X → List ℕ) → List X → Type 0
IsHeap left parts = IsHeapFrom left 0 parts

pub IsHeap-prop : {X : Type 0} (left : X → List ℕ) (parts : List X) → IsProp (IsHeap left parts)
IsHeap-prop left parts = Prim.hlevel props

-- no child of the part at j stands before the part at c
abbrev pub IsBeforeChildren : {X : Type 0} → (X → List ℕ) → List X → ℕ → ℕ → Type 0
IsBeforeChildren {X} left parts j c = (k : ℕ) (d : X) → j * 2 + 1 ≤ k → k ≤ j * 2 + 2 → k < length parts →
    stands_after left (slice_index_or parts c d) (slice_index_or parts k d) ≡ false
