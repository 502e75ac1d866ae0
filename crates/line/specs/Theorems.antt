-- Lines as they look. Each statement is a type; proofs/Theorems.antt proves it.
use Rattle.std.specs.Prelude.{◌≡◌, ℕ, ◌-◌, ◌^◌, ◌≤◌, ◌<◌, [], ◌∷◌, length}
use Rattle.line.specs.Text.{decimal_of, line_of}

-- `3 16 16`, the header of document 01's file.
unfoldable pub HeaderLine : Type 0
HeaderLine = line_of (3 ∷ 16 ∷ 16 ∷ []) ≡ 51 ∷ 32 ∷ 49 ∷ 54 ∷ 32 ∷ 49 ∷ 54 ∷ 10 ∷ []

-- The smallest number and the largest, `0 4294967295`.
unfoldable pub LongestNumber : Type 0
LongestNumber =
    line_of (0 ∷ 4294967295 ∷ [])
    ≡ 48 ∷ 32 ∷ 52 ∷ 50 ∷ 57 ∷ 52 ∷ 57 ∷ 54 ∷ 55 ∷ 50 ∷ 57 ∷ 53 ∷ 10 ∷ []

-- A u32 has as many digits as it takes to hold it, and no more; 0 has one.
unfoldable pub FewestDigits : Type 0
FewestDigits = (n : ℕ) → n < 2 ^ 32
    → (n < 10 ^ length (decimal_of n)) × (1 < length (decimal_of n) → 10 ^ (length (decimal_of n) - 1) ≤ n)
