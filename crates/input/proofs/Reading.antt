-- What is known of an input while it is read.
-- Assumes nothing.
use Rattle.std.proofs.Common.{◌≡◌, ℕ, ◌+◌, List, [], ◌++◌, length, Option, refl, sym, ap₂, ◌∙◌, length-append}
use Rattle.std.proofs.KnownBytes.{Consumes-nil, Consumes-trans}
use Rattle.std.specs.Io.KnownBytes.{Consumes}
use Rattle.input.specs.Held.{beginning_with, kept_in}
use Rattle.input.proofs.Kept.{nothing-yet, kept-after}

-- Some bytes were read, `total` of them, whose first stand in what was lent; the reader had them, and has the rest.
abbrev pub ReadSoFar : Option (List ℕ) → Option (List ℕ) → ℕ → List ℕ → List ℕ → Type 0
ReadSoFar known left total before after =
    (input : List ℕ) × (length input ≡ total) × (after ≡ beginning_with input before) × Consumes known left input

pub none_read : (known : Option (List ℕ)) (before : List ℕ) → ReadSoFar known known 0 before before
none_read known before = ([], refl, sym (nothing-yet before), Consumes-nil known)

-- One piece more.
pub one_more : (known left next : Option (List ℕ)) (total count : ℕ) (before now after piece : List ℕ) → length piece ≡ count
    → ReadSoFar known left total before now → Consumes left next piece → after ≡ kept_in piece total now
    → ReadSoFar known next (total + count) before after
one_more known left next total count before now after piece counted (input, long, is, had) has kept = (
  input ++ piece,
  length-append input piece ∙ ap₂ ◌+◌ long counted,
  kept ∙ ap₂ (kept_in piece) (sym long) is ∙ kept-after input piece before,
  Consumes-trans known left next input piece had has,
)
