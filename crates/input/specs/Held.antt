-- What is kept of an input. No contract says which bytes a file or a terminal gives; a reader over memory may say its own.
use Rattle.std.specs.Prelude.{ℕ, ◌+◌, ◌-◌, min, ◌≡◌, List, ◌++◌, length, take, drop, Option, Some, None}
use Rattle.input.specs.declared.Whole.{Whole}

-- What is lent, with the bytes of an input put in from the start on, as many as there is room for.
unfoldable pub beginning_with : List ℕ → List ℕ → List ℕ
beginning_with input lent = take (length lent) input ++ drop (length input) lent

-- There is an input of `total` bytes, whose first bytes stand in what was lent; the bytes past it stay.
abbrev pub Begins : ℕ → List ℕ → List ℕ → Type 0
Begins total before after = (input : List ℕ) × (length input ≡ total) × (after ≡ beginning_with input before)

-- It is held whole, or as much of it as was lent. Of an input that was not read to its end nothing is said.
abbrev pub Held : Whole → List ℕ → List ℕ → Type 0
Held whole before after = (whole.held ≡ min whole.total (length after)) × Begins whole.total before after

-- Where the reader says which bytes it has left, the input is just these.
abbrev pub HeldOf : Whole → Option (List ℕ) → List ℕ → List ℕ → Type 0
HeldOf whole (Some input) before after = (whole.total ≡ length input) × (after ≡ beginning_with input before)
HeldOf whole None before after = Unit {0}

-- ---- For the inner function `keep`; no promise to a caller cites it.

-- What is lent, with as much of a piece as has room put in from index `at` on.
unfoldable pub kept_in : List ℕ → ℕ → List ℕ → List ℕ
kept_in piece at lent =
    take at lent ++ (take (length lent - at) piece ++ drop (at + min (length piece) (length lent - at)) lent)
