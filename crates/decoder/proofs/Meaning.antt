-- A number that has a meaning is in its list, and stands for what is there.
-- Assumes nothing.
use Prim.Native.Nat.{ℕ, zero, suc, ◌<◌}
use mathlib.Core.Path.{◌≡◌, ap}
use mathlib.Core.Bool.{false≢true}
use mathlib.Core.List.{List, [], ◌∷◌}
use native.Mathlib.Omega.{arith}
use lib.ListN.{length, get_or}
use Rattle.std.specs.Prelude.{Ok, is_ok}
use Rattle.event.specs.Meaning.{meant_by}

pub in_list : {A : Type 0} (list : List A) (number : ℕ) (x past : A) → meant_by list number ≡ Ok x
    → (number < length list) × (get_or list number past ≡ x)
in_list [] number x past h = absurd (false≢true (ap is_ok h))
in_list (y ∷ list) zero x past h = (omega arith, cc)
in_list (y ∷ list) (suc number) x past h =
    let rest = in_list list number x past h in
    (omega (arith, rest.0), rest.1)
