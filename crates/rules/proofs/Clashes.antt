-- A clash is computed: permitted orders put two accesses either way just if the earlier is an open operation's.
-- Assumes nothing.
use Prim.Native.Nat.{ℕ, suc, ◌<◌}
use native.Mathlib.Omega.{arith}
use mathlib.Core.Path.{◌≡◌, refl, sym, ◌∙◌, ap}
use mathlib.Core.Logic.Iff
use mathlib.Core.Logic.{◌≢◌, ◌↔◌}
use mathlib.Core.Bool.{Bool, true, false, not, false≢true}
use mathlib.Core.List.{List}
use lib.ListN.{length}
use borrow.Author.Tests.{not-true}
use Rattle.little_endian.proofs.Tests.{Tells, and-tells, not-tells, itself}
use Rattle.event.specs.declared.Event.{Event}
use Rattle.effect.specs.Effect.{MayShare}
use Rattle.effect.proofs.Commute.{meet-sym}
use Rattle.order.specs.Order.{◌∈◌}
use Rattle.rules.specs.Search.{any_below}
use Rattle.rules.specs.Events.{effect_of, accesses, event_at}
use Rattle.rules.specs.Closing.{closed_by, is_operation, is_open}
use Rattle.rules.specs.Orders.{Action, turn, act, moment_of, actions_of, CanComeEitherWay}
use Rattle.rules.specs.Clashes.{EventsClash}
use Rattle.rules.specs.Tests.{may_share, some_meet, collide, clashes}
use Rattle.rules.proofs.Actions.{event, is_in_actions}
use Rattle.rules.proofs.Orders.{OpenUpTo, open_not_precedes, operation-free, turn_fixed, other-event}
use Rattle.rules.proofs.Meeting.{SomeMeet, some-meet-tells, may_share_tells, may_share_sym}

-- ---- an operation is open
open_tells : (es : List Event) (j i : ℕ)
    → Tells (is_open es (suc j) i) ((is_operation (event_at es i) ≡ true) × OpenUpTo es j i)
unfolding is_open
open_tells es j i = and-tells (is_operation (event_at es i)) (not (any_below (closed_by es i) (suc j))) (itself _)
    (λ e. (open_not_precedes es i j).0 (not-true _ e), λ h. ap not ((open_not_precedes es i j).1 h))

-- ---- a clash is computed
-- accesses of the two events meet, and they may not share
abbrev Collide : Event → Event → Type 0
Collide e e' = (¬ MayShare (effect_of e) (effect_of e')) × SomeMeet (accesses e) (accesses e')

collide-tells : (e e' : Event) → Tells (collide e e') (Collide e e')
collide-tells e e' =
    and-tells (not (may_share (effect_of e) (effect_of e'))) (some_meet (accesses e) (accesses e'))
    (not-tells (may_share (effect_of e) (effect_of e')) (may_share_tells (effect_of e) (effect_of e')))
    (some-meet-tells (accesses e) (accesses e'))

event_moment : (t : Bool) (j : ℕ) → event (moment_of t j) ≡ j
event_moment true j = refl
event_moment false j = refl

module _ (es : List Event) where
  moment_in : (j : ℕ) → j < length es → moment_of (is_operation (event_at es j)) j ∈ actions_of es
  moment_in j l = by_test (is_operation (event_at es j)) refl
    where
      by_test : (t : Bool) → is_operation (event_at es j) ≡ t → moment_of t j ∈ actions_of es
      by_test true e = is_in_actions es (act j) l e
      by_test false e = is_in_actions es (turn j) l tt

  -- for two events of a list: they can come either way just if the earlier is an operation that is open up to the later
  pub moments-free : (i j : ℕ) → i < j → j < length es
      → CanComeEitherWay es (moment_of (is_operation (event_at es i)) i) (moment_of (is_operation (event_at es j)) j)
      ↔ ((is_operation (event_at es i) ≡ true) × OpenUpTo es j i)
  moments-free i j lt below = by_test (is_operation (event_at es i)) refl
    where
      b : Action
      b = moment_of (is_operation (event_at es j)) j

      at_j : event b ≡ j
      at_j = event_moment (is_operation (event_at es j)) j

      here : b ∈ actions_of es
      here = moment_in j below

      by_test : (t : Bool) → is_operation (event_at es i) ≡ t
          → CanComeEitherWay es (moment_of t i) b ↔ ((t ≡ true) × OpenUpTo es j i)
      by_test true op =
          let free = operation-free es i b op here (omega (arith, at_j)) in
          (λ e. (refl, rw at_j at (free.0 e)), λ h. free.1 (rw at_j h.1))
      by_test false op = (
        λ e. absurd (turn_fixed es i b here (omega (arith, at_j)) (λ q. omega (arith, at_j, ap event q)) e),
        λ h. absurd (false≢true h.0),
      )

  -- what event i does and what event j does can come either way
  abbrev Free : ℕ → ℕ → Type 0
  Free i j = CanComeEitherWay es (moment_of (is_operation (event_at es i)) i) (moment_of (is_operation (event_at es j)) j)

  pub clash-tells : (i j : ℕ) → i < j → j < length es → Tells (clashes es i j) (EventsClash es i j)
  unfolding clashes
  clash-tells i j lt below = Iff.trans
      (and-tells (is_open es (suc j) i) (collide (event_at es i) (event_at es j))
      (Iff.trans (open_tells es j i) ((moments-free i j lt below).1, (moments-free i j lt below).0))
      (collide-tells (event_at es i) (event_at es j)))
      (there, back)
    where
      there : Free i j × Collide (event_at es i) (event_at es j) → EventsClash es i j
      there (free, (no-share, s)) = record {
        x = s.one;
        y = s.has.one;
        clash = record {
          first_made = record { below = omega arith; made = s.among };
          second_made = record { below = below; made = s.has.among };
          meet = s.has.has;
          may_not_share = no-share;
          either_way = free;
        };
      }

      meets : EventsClash es i j → SomeMeet (accesses (event_at es i)) (accesses (event_at es j))
      meets c = record {
        one = c.x;
        among = c.clash.first_made.made;
        has = record { one = c.y; among = c.clash.second_made.made; has = c.clash.meet };
      }

      back : EventsClash es i j → Free i j × Collide (event_at es i) (event_at es j)
      back c = (c.clash.either_way, (c.clash.may_not_share, meets c))

  pub clash-sym : {i j : ℕ} → EventsClash es i j → EventsClash es j i
  clash-sym c = record {
    x = c.y;
    y = c.x;
    clash = record {
      first_made = c.clash.second_made;
      second_made = c.clash.first_made;
      meet = meet-sym c.clash.meet;
      may_not_share = λ m. c.clash.may_not_share (may_share_sym m);
      either_way = record { one_way = c.clash.either_way.other_way; other_way = c.clash.either_way.one_way };
    };
  }

  -- of two events that clash, one is earlier
  pub clash-events : {i j : ℕ} → EventsClash es i j → i ≢ j
  clash-events {i} {j} c e =
      other-event es _ _ c.clash.either_way
      (event_moment (is_operation (event_at es i)) i ∙ e ∙ sym (event_moment (is_operation (event_at es j)) j))
