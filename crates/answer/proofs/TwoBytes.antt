-- Numbers in two bytes each, there and back.
-- Assumes nothing.
use Prim.Native.Nat.{ℕ, zero, suc, ◌+◌, ◌*◌}
use mathlib.Core.Path.{◌≡◌, sym}
use mathlib.Core.List.{List, [], ◌∷◌}
use native.Mathlib.Omega.{arith}
use lib.Dec.{lit<}
use lib.ListN.{length, drop, drop_of_length-le}
use Rattle.little_endian.specs.Number.{Bytes, bytes_of}
use Rattle.little_endian.proofs.Widths as widths
use Rattle.answer.specs.Sheet.{two_each, two_at}

pub each-bytes : (ns : List ℕ) → Bytes (two_each ns)
unfolding Bytes bytes_of
each-bytes [] i = lit< tt
each-bytes (n ∷ ns) zero = omega arith
each-bytes (n ∷ ns) (suc zero) = omega arith
each-bytes (n ∷ ns) (suc (suc i)) = each-bytes ns i

-- The n numbers that stand in two bytes each from index i on.
abbrev pub numbers_from : ℕ → ℕ → List ℕ → List ℕ
numbers_from zero i s = []
numbers_from (suc n) i s = two_at s i ∷ numbers_from n (i + 2) s

-- Bytes are the bytes of the numbers that stand there.
pub back : (n i : ℕ) (s : List ℕ) → Bytes s → length s ≡ i + 2 * n → two_each (numbers_from n i s) ≡ drop i s
back zero i s bytes h = sym (drop_of_length-le s {i = i} (omega arith))
back (suc n) i s bytes h = rw (back n (i + 2) s bytes (omega arith)) (widths.back 2 s i bytes (omega arith))
