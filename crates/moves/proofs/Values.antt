-- A store's value bytes.
-- Assumes nothing.
use Prim.Native.Nat.{ℕ}
use mathlib.Core.Path.{◌≡◌, refl}
use lib.ListN.{replicate}
use lib.Seq.{sets}
use Rattle.little_endian.specs.Number.{bytes_of}
use Rattle.event.specs.Fields.{value_bytes}

-- the low eight bytes and then the high ones, put into sixteen
pub value_put : (low high : ℕ) → sets (sets (replicate 16 0) 0 (bytes_of 8 low)) 8 (bytes_of 8 high) ≡ value_bytes low high
unfolding bytes_of
value_put low high = refl
