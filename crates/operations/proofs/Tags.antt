-- The digits of a tag come back, so that tags with different parts differ.
-- Assumes nothing.
use Prim.Native.Nat.{ℕ, ◌+◌, ◌*◌, ◌<◌}
use native.Mathlib.Omega.{arith}
use mathlib.Core.Path.{◌≡◌}
use Rattle.operations.specs.Tag.{tag_of, written_in, chain_in, reduction_in}
use Rattle.operations.specs.Theorems.{TagsTellApart}

module _ (written chain operation element : ℕ) (w : written < 16) (c : chain < 16) where
  pub written_back : written_in (tag_of written chain operation element) ≡ written
  written_back = omega arith

  pub chain_back : chain_in (tag_of written chain operation element) ≡ chain
  chain_back = omega arith

  pub reduction-back : reduction_in (tag_of written chain operation element) ≡ operation + 16 * element
  reduction-back = omega arith

pub tags_tell_apart : TagsTellApart
unfolding TagsTellApart
tags_tell_apart written chain operation element written' chain' operation' element' w c o w' c' o' e =
    (omega arith, omega arith, omega arith, omega arith)
