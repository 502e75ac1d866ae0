-- What holds of effects. Each statement is a type; proofs/Theorems.antt proves it, as `commutes : Commutes`.
use Rattle.std.specs.Prelude.{ℕ, suc, ◌-◌, ◌/◌, ◌%◌, ◌<◌, ◌≡◌, ◌≢◌, ◌⊎◌, true, cond, ltb, ℤ, pos, negsuc}
use Rattle.std.specs.Int.Signed.{lt_z}
use Rattle.order.specs.Order.{◌∈◌}
use Rattle.effect.specs.Memory.{State}
use Rattle.effect.specs.Access.{Access, Meet}
use Rattle.effect.specs.Element.{bound, width, rank}
use Rattle.effect.specs.Effect.{Effect, nothing, load, store, copy, bulk_copy, bulk_reduction, accesses_of, does, MayShare}

-- A reduction's destination begins at an element.
abbrev pub OnElements : Effect → Type 0
OnElements nothing = Unit {0}
OnElements (load space at size) = Unit {0}
OnElements (store space at size value) = Unit {0}
OnElements (copy dst src count size) = Unit {0}
OnElements (bulk_copy dst src size) = Unit {0}
OnElements (bulk_reduction dst src size operation element) = dst % width element ≡ 0

-- No two accesses of the two meet.
abbrev pub Apart : Effect → Effect → Type 0
Apart a b = (x y : Access) → x ∈ accesses_of a → y ∈ accesses_of b → ¬ Meet x y

-- Effects of two events that may share a place, or whose accesses do not meet, can as well come in the other order.
unfoldable pub Commutes : Type 0
Commutes =
    (i j : ℕ) (a b : Effect) → i ≢ j → OnElements a → OnElements b → MayShare a b ⊎ Apart a b
    → (s : State) → does j b (does i a s) ≡ does i a (does j b s)

-- The integer that w bytes stand for in two's complement: of a number in the upper half it is that number less the bound.
-- (`negsuc k` is -(k + 1).)
abbrev pub twos_complement : ℕ → ℕ → ℤ
twos_complement w n = cond (ltb n (bound w / 2)) (pos n) (negsuc (bound w - suc n))

-- s32 compares as two's complement, and so do signed numbers of every width.
unfoldable pub ComparesAsTwosComplement : Type 0
ComparesAsTwosComplement =
    (w a b : ℕ) → a < bound (suc w) → b < bound (suc w)
    → ltb (rank true (suc w) a) (rank true (suc w) b) ≡ lt_z (twos_complement (suc w) a) (twos_complement (suc w) b)
