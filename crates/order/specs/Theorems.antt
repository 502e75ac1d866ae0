-- What holds of orders. Each statement is a type; proofs/Theorems.antt proves it, as `one_outcome : OneOutcome`.
use Rattle.std.specs.Prelude.{◌≡◌, ◌≢◌, ◌↔◌, Bool, true, false, List}
use mathlib.Core.HLevel.{Discrete}
use Rattle.order.specs.Order.{◌∈◌, Before, Permitted, EitherWay, runs, Commute}

-- The test `precedes` is `must` with all that follows from it: it passes for what must be, every permitted order keeps
-- it, and it is transitive.
pub record Closure {A : Type 0} (actions : List A) (must : A → A → Type 0) (precedes : A → A → Bool) : Type 0 where
  pub includes : (a b : A) → a ∈ actions → b ∈ actions → must a b → precedes a b ≡ true
  pub kept :
      (order : List A) → Permitted actions must order
      → (a b : A) → a ∈ actions → b ∈ actions → precedes a b ≡ true → Before a b order
  pub transitive :
      (a b c : A) → a ∈ actions → b ∈ actions → c ∈ actions
      → precedes a b ≡ true → precedes b c ≡ true → precedes a c ≡ true

-- Where some order is permitted, two actions can come either way exactly when neither must precede the other.
unfoldable pub EitherWayExactly : Type 1
EitherWayExactly =
    (A : Type 0) → Discrete A
    → (actions : List A) (must : A → A → Type 0) (precedes : A → A → Bool) → Closure actions must precedes
    → (some : List A) → Permitted actions must some
    → (a b : A) → a ∈ actions → b ∈ actions → a ≢ b
    → EitherWay actions must a b ↔ ((precedes a b ≡ false) × (precedes b a ≡ false))

-- All permitted orders end in one state, if every two actions that can come either way commute.
unfoldable pub OneOutcome : Type 1
OneOutcome =
    (A S : Type 0) (exec : A → S → S) (actions : List A) (must : A → A → Type 0)
    → ((a b : A) → EitherWay actions must a b → Commute exec a b)
    → (o₁ o₂ : List A) → Permitted actions must o₁ → Permitted actions must o₂
    → (s : S) → runs exec o₁ s ≡ runs exec o₂ s
