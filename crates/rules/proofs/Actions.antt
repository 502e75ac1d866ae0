-- Laws of `actions_of`: which actions a list has, and which of two stands first there.
-- Assumes nothing.
use Prim.Native.Nat.{ℕ, zero, suc, ◌+◌, ◌≤◌, ◌<◌}
use native.Mathlib.Omega.{arith}
use native.Mathlib.Decide.{ℕ_discrete}
use mathlib.Core.Path.{◌≡◌, refl, ap}
use mathlib.Core.Logic.{◌≢◌, ⊎_elim}
use mathlib.Core.HLevel.{Discrete}
use mathlib.Core.Bool.{Bool, true, false}
use mathlib.Core.List.Memᴰ
use mathlib.Core.List.{List, [], ◌∷◌}
use lib.ListN.{length}
use Rattle.event.specs.declared.Event.{Event}
use Rattle.order.specs.Order.{◌∈◌, Before, first, later}
use Rattle.order.proofs.Before.{not_nil, total, Placed, in_first, in_both, in_second, placed}
use Rattle.rules.specs.Closing.{is_operation}
use Rattle.rules.specs.Events.{event_at}
use Rattle.rules.specs.Orders.{Action, turn, act, Action-discrete, acting, moments, actions_from, actions_of}

pub action_discrete : Discrete Action
action_discrete = Action-discrete ℕ_discrete

-- the event that an action belongs to
abbrev pub event : Action → ℕ
event (turn i) = i
event (act i) = i

-- the rank of an action goes up along `actions_of`
unfoldable pub rank : Action → ℕ
rank (turn i) = i + i
rank (act i) = i + i + 1

pub rank-event : (a : Action) → (event a + event a ≤ rank a) × (rank a ≤ event a + event a + 1)
unfolding rank
rank-event (turn i) = omega arith
rank-event (act i) = omega arith

pub turn-rank : (i : ℕ) (b : Action) → i ≤ event b → turn i ≢ b → rank (turn i) < rank b
unfolding rank
turn-rank i (turn j) le ne = let ne' : i ≢ j = λ e. ne (ap turn e) in omega arith
turn-rank i (act j) le ne = omega arith

-- an event has a turn, and an act if it starts an operation
abbrev pub Happens : Action → Event → Type 0
Happens (turn i) e = Unit {0}
Happens (act i) e = is_operation e ≡ true

in_operation : (t : Bool) (i : ℕ) {a : Action} → a ∈ acting t i → (a ≡ act i) × (t ≡ true)
in_operation true i m = (Memᴰ.eq_of_singleton m, refl)
in_operation false i m = absurd (Memᴰ.not-nil m)

alone : (t : Bool) (i : ℕ) {a b : Action} → ¬ Before a b (acting t i)
alone true i (first e m) = Memᴰ.not-nil m
alone true i (later h) = not_nil h
alone false i h = not_nil h

in_moments : (i : ℕ) (e : Event) {a : Action} → a ∈ moments i e → (event a ≡ i) × Happens a e
in_moments i e (Memᴰ.head q) = rw q (refl, tt)
in_moments i e (Memᴰ.tail m) = let (q, t) = in_operation (is_operation e) i m in rw q (refl, t)

its_moment : (a : Action) (e : Event) → Happens a e → a ∈ moments (event a) e
its_moment (turn i) e h = Memᴰ.head refl
its_moment (act i) e h = rw h (Memᴰ.tail (Memᴰ.head refl))

-- where an action of `actions_from k es` comes from
record From (k : ℕ) (es : List Event) (a : Action) : Type 0 where
  place : ℕ
  below : place < length es
  counted : event a ≡ k + place
  happens : Happens a (event_at es place)

in_from : (k : ℕ) (es : List Event) {a : Action} → a ∈ actions_from k es → From k es a
in_from k [] m = absurd (Memᴰ.not-nil m)
in_from k (e ∷ es) {a} m = ⊎_elim (λ l. here (in_moments k e l)) (λ l. later_on (in_from (suc k) es l))
    (Memᴰ.append_cases (moments k e) m)
  where
    here : (event a ≡ k) × Happens a e → From k (e ∷ es) a
    here (q, h) = record { place = 0; below = omega arith; counted = omega arith; happens = h }

    later_on : From (suc k) es a → From k (e ∷ es) a
    later_on f = record { place = suc f.place; below = omega arith; counted = omega arith; happens = f.happens }

is_in_from : (k : ℕ) (es : List Event) (a : Action) (d : ℕ) → d < length es → event a ≡ k + d
    → Happens a (event_at es d) → a ∈ actions_from k es
is_in_from k [] a d l q h = absurd (omega arith)
is_in_from k (e ∷ es) a zero l q h =
    let q' : event a ≡ k = omega arith in Memᴰ.append_left (actions_from (suc k) es) (rw q' at (its_moment a e h))
is_in_from k (e ∷ es) a (suc d) l q h =
    Memᴰ.append_right (moments k e) (is_in_from (suc k) es a d (omega arith) (omega arith) h)

from_ranks : (k : ℕ) (es : List Event) {a b : Action} → Before a b (actions_from k es) → rank a < rank b
unfolding rank
from_ranks k [] h = absurd (not_nil h)
from_ranks k (e ∷ es) {a} {b} h = by_place (placed (moments k e) h) (from_ranks (suc k) es)
  where
    of_one_event : Before a b (moments k e) → rank a < rank b
    of_one_event (first q m) = rw (q, (in_operation (is_operation e) k m).0) (omega arith)
    of_one_event (later l) = absurd (alone (is_operation e) k l)

    by_place : Placed a b (moments k e) (actions_from (suc k) es)
        → (Before a b (actions_from (suc k) es) → rank a < rank b) → rank a < rank b
    by_place (in_first l) ih = of_one_event l
    by_place (in_both l m) ih =
        omega (arith, rank-event a, rank-event b, (in_moments k e l).0, (in_from (suc k) es m).counted)
    by_place (in_second l) ih = ih l

-- ---- of a whole list
module _ (es : List Event) where
  pub in_actions : {a : Action} → a ∈ actions_of es → (event a < length es) × Happens a (event_at es (event a))
  in_actions {a} m =
      let f = in_from 0 es m in
      let q : event a ≡ f.place = omega arith in
      rw q (f.below, f.happens)

  pub is_in_actions : (a : Action) → event a < length es → Happens a (event_at es (event a)) → a ∈ actions_of es
  is_in_actions a l h = is_in_from 0 es a (event a) l (omega arith) h

  pub actions_rank : {a b : Action} → Before a b (actions_of es) → rank a < rank b
  actions_rank h = from_ranks 0 es h

  pub rank-before : {a b : Action} → rank a < rank b → a ∈ actions_of es → b ∈ actions_of es → Before a b (actions_of es)
  rank-before {a} {b} lt l m =
      ⊎_elim (λ h. h) (λ h. absurd (omega (arith, actions_rank h)))
      (total (λ e. absurd (omega (arith, ap rank e))) l m)
