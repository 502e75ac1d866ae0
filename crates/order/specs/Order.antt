-- Orders of actions of any type. An order is a list, its first action first.
use Rattle.std.specs.Prelude.{◌≡◌, ◌↔◌}
use mathlib.Core.List.{List, [], ◌∷◌, Memᴰ}

module _ {A : Type 0} where
  infix 50 ◌∈◌
  -- `a ∈ o`: the action a is in the order o.
  abbrev pub ◌∈◌ : A → List A → Type 0
  a ∈ o = Memᴰ a o

  -- a comes before b: it is the first and b is further on, or both stand so in what follows the first.
  pub data Before (a b : A) : List A → Type 0 where
    first : {x : A} {o : List A} → a ≡ x → b ∈ o → Before a b (x ∷ o)
    later : {x : A} {o : List A} → Before a b o → Before a b (x ∷ o)

  -- No action is in the order twice: one that is comes before itself.
  abbrev pub Once : List A → Type 0
  Once o = (a : A) → ¬ Before a a o

  -- The two have the same actions.
  abbrev pub SameActions : List A → List A → Type 0
  SameActions o₁ o₂ = (a : A) → (a ∈ o₁) ↔ (a ∈ o₂)

  -- The order has each of the actions once and no other, and a before b wherever a must come before b.
  pub record Permitted (actions : List A) (must : A → A → Type 0) (order : List A) : Type 0 where
    pub once : Once order
    pub all : SameActions actions order
    pub keeps : (a b : A) → a ∈ actions → b ∈ actions → must a b → Before a b order

  -- Some permitted order has a before b.
  pub record CanPrecede (actions : List A) (must : A → A → Type 0) (a b : A) : Type 0 where
    pub order : List A
    pub permitted : Permitted actions must order
    pub before : Before a b order

  -- Permitted orders exist that put the two either way.
  pub record EitherWay (actions : List A) (must : A → A → Type 0) (a b : A) : Type 0 where
    pub one_way : CanPrecede actions must a b
    pub other_way : CanPrecede actions must b a

  module _ {S : Type 0} (exec : A → S → S) where
    -- The state after the actions of the order, one after the other.
    abbrev pub runs : List A → S → S
    runs [] s = s
    runs (a ∷ o) s = runs o (exec a s)

    -- Where the two follow one another, it is all one which comes first.
    abbrev pub Commute : A → A → Type 0
    Commute a b = (s : S) → exec b (exec a s) ≡ exec a (exec b s)
