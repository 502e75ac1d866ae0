-- Two ranges that share a byte, and the test for it.
-- Assumes nothing.
use Prim.Native.Nat.{◌+◌, ◌<◌, min, max}
use native.Mathlib.Omega.{arith}
use mathlib.Core.Path.{◌≡◌, refl, sym}
use mathlib.Core.Logic.{◌↔◌}
use mathlib.Core.Bool.{Bool, true, false, false≢true}
use mathlib.Mathlib.Data.Bool.Basic.{eq-false_of_not-eq-true}
use borrow.Author.Tests.{ltb-true, lt-ltb}
use Rattle.operations.specs.declared.Range.{Range}
use Rattle.operations.specs.Clash.{ShareByte, share_byte}

-- a byte that both have is at or past both starts and before both ends
shared-byte : (a b : Range) → a.start < b.start + b.length → b.start < a.start + a.length
    → 0 < a.length → 0 < b.length → ShareByte a b
shared-byte a b p q s t = record {
  byte = max a.start b.start;
  in_first = record { from = omega arith; below = omega arith };
  in_second = record { from = omega arith; below = omega arith };
}

pub share_tells : (a b : Range) → (share_byte a b ≡ true) ↔ ShareByte a b
unfolding share_byte
share_tells a b = (there, back)
  where
    there : share_byte a b ≡ true → ShareByte a b
    there e =
        let h = ltb-true (max a.start b.start) (min (a.start + a.length) (b.start + b.length)) e in
        shared-byte a b (omega arith) (omega arith) (omega arith) (omega arith)

    back : ShareByte a b → share_byte a b ≡ true
    back s = lt-ltb (max a.start b.start) (min (a.start + a.length) (b.start + b.length)) (omega arith)

pub share_sym : {a b : Range} → ShareByte a b → ShareByte b a
share_sym s = record { byte = s.byte; in_first = s.in_second; in_second = s.in_first }

-- whatever tells the same is the same test
pub same_test : (r : Bool) (a b : Range) → (r ≡ true) ↔ ShareByte a b → r ≡ share_byte a b
same_test true a b (there, back) = sym ((share_tells a b).1 (there refl))
same_test false a b (there, back) = sym (eq-false_of_not-eq-true (λ e. false≢true (back ((share_tells a b).0 e))))
