-- `put` meets its contract: what is still to be put in makes of the bytes so far what is promised.
use Prim.Native.Nat.{◌-◌}
use mathlib.Core.Path.{◌≡◌}
use lib.ListN.{length}
use lib.Seq.{sets}
use Rattle.little_endian.specs.Number.{bytes_of}
use Rattle.little_endian.proofs.put.Given as goal

abbrev pub invariant-loop-byte : goal.invariant-loop-byte
invariant-loop-byte l =
    (length l.byte-items ≡ l.width)
    × (sets l.byte-items l.byte-index (bytes_of (l.width - l.byte-index) l.rest) ≡ bytes_of l.width l.number)
