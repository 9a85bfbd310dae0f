-- What has come of a head, as the code has it.
use Rattle.std.specs.Prelude.{◌≡◌, ◌≤◌, ℕ, List, take, drop, length, Option}
use Rattle.std.specs.Io.KnownBytes.{IsAtEnd}
use Rattle.sq_http.specs.Cut.{cut, Waiting, TooLong, Whole}
use Rattle.sq_http.specs.declared.reading.Heading.{Heading}
use Rattle.sq_http.specs.declared.reading.Heading.TheVariants as heading

-- it says how what is held is cut, and that the input ended where it says so
abbrev pub IsHeading : Heading → List ℕ → Option (List ℕ) → Type 0
IsHeading (heading.Whole size) held left = (cut held ≡ Whole (take size held) (drop size held)) × (size ≤ length held)
IsHeading heading.TooLong held left = cut held ≡ TooLong
IsHeading heading.Ended held left = (cut held ≡ Waiting) × IsAtEnd left
