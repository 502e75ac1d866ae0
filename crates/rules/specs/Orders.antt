-- The permitted orders of a list: which actions there are, and which must come before which.
use Rattle.std.specs.Prelude.{ℕ, suc, ◌<◌, ◌≡◌, Bool, true, false, List, [], ◌∷◌, ◌++◌}
use Rattle.event.specs.declared.Event.{Event}
use Rattle.effect.specs.Access.{Access}
use Rattle.order.specs.Order.{Permitted, EitherWay}
use Rattle.rules.specs.Closing.{is_operation, closed_by}

pub data Action : Type 0 where
  -- Event i has its turn.
  turn : ℕ → Action
  -- The operation that event i started acts, once, whole.
  act : ℕ → Action
  deriving Discrete as Action-discrete

abbrev pub acting : Bool → ℕ → List Action
acting true i = act i ∷ []
acting false i = []

-- The moments of event i: its turn, and if it starts an operation, when that acts.
abbrev pub moments : ℕ → Event → List Action
moments i e = turn i ∷ acting (is_operation e) i

abbrev pub actions_from : ℕ → List Event → List Action
actions_from i [] = []
actions_from i (e ∷ es) = moments i e ++ actions_from (suc i) es

-- All actions of a list.
abbrev pub actions_of : List Event → List Action
actions_of es = actions_from 0 es

-- What must come before what. Nothing else is ordered.
pub data Must (es : List Event) : Action → Action → Type 0 where
  -- The thread's events in file order.
  in_turn : {i j : ℕ} → i < j → Must es (turn i) (turn j)
  -- An operation acts after its start ..
  started : {i : ℕ} → Must es (turn i) (act i)
  -- .. and before the wait that closes it.
  closed : {i w : ℕ} → closed_by es i w ≡ true → Must es (act i) (turn w)

-- A permitted order arranges all actions.
abbrev pub PermittedOrder : List Event → List Action → Type 0
PermittedOrder es order = Permitted (actions_of es) (Must es) order

-- Permitted orders exist that put the two either way.
abbrev pub CanComeEitherWay : List Event → Action → Action → Type 0
CanComeEitherWay es a b = EitherWay (actions_of es) (Must es) a b

-- The action at which event i does what it does: at its turn, or, if it starts an operation, when that acts.
abbrev pub moment_of : Bool → ℕ → Action
moment_of true i = act i
moment_of false i = turn i

-- The action at which an access of event i happens. An operation acts whole: both its accesses happen at once.
abbrev pub happens_at : ℕ → Event → Access → Action
happens_at i e x = moment_of (is_operation e) i
