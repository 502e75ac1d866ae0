-- What the list's own order gives, computed event by event: each operation acts as soon as it is started.
-- Assumes nothing.
use Prim.Native.Nat.{ℕ, suc, ◌+◌, ◌<◌}
use native.Mathlib.Nat.{zero-add}
use native.Mathlib.Omega.{arith}
use mathlib.Core.Path.{◌≡◌, refl, ◌∙◌, ap}
use mathlib.Core.Bool.{Bool, true, false, cond}
use mathlib.Core.List.{List, [], ◌∷◌, ◌++◌, append_assoc}
use lib.ListN.{length, replicate, length-append}
use lib.Seq.{set_at}
use Rattle.event.specs.declared.Event.{Event}
use Rattle.effect.specs.Memory.{Global, Shared, State, initial, get}
use Rattle.effect.specs.Effect.{Effect, nothing, load, store, copy, bulk_copy, bulk_reduction, does}
use Rattle.order.specs.Order.{runs}
use Rattle.rules.specs.Events.{effect_of, event_at}
use Rattle.rules.specs.Closing.{is_operation}
use Rattle.rules.specs.Orders.{turn, act, acting, actions_from, actions_of}
use Rattle.rules.specs.Outcomes.{exec, loads_of, Outcome, outcome}

-- ---- event by event, each with its effect
abbrev pub stepped : ℕ → Event → State → State
stepped k e s = does k (effect_of e) s

abbrev eagerly : ℕ → List Event → State → State
eagerly k [] s = s
eagerly k (e ∷ es) s = eagerly (suc k) es (stepped k e s)

module _ (all : List Event) where
  runs-eagerly : (k : ℕ) (es : List Event) → ((d : ℕ) → d < length es → event_at all (k + d) ≡ event_at es d)
      → (s : State) → runs (exec all) (actions_from k es) s ≡ eagerly k es s
  runs-eagerly k [] h s = refl
  runs-eagerly k (e ∷ es) h s =
      by_test (is_operation e) refl
      (runs-eagerly (suc k) es (λ d l. let q : suc k + d ≡ k + suc d = omega arith in rw q (h (suc d) (omega arith))))
    where
      here : event_at all k ≡ e
      here = let q : k + 0 ≡ k = omega arith in rw q at (h 0 (omega arith))

      at_turn : (t : Bool) → is_operation e ≡ t → exec all (turn k) s ≡ cond t s (stepped k e s)
      at_turn t op = ap (λ x. cond (is_operation x) s (stepped k x s)) here ∙ ap (λ b. cond b s (stepped k e s)) op

      by_test : (t : Bool) → is_operation e ≡ t
          → ((s' : State) → runs (exec all) (actions_from (suc k) es) s' ≡ eagerly (suc k) es s')
          → runs (exec all) (turn k ∷ (acting t k ++ actions_from (suc k) es)) s ≡ eagerly (suc k) es (stepped k e s)
      by_test true op ih =
          ap (λ r. runs (exec all) (actions_from (suc k) es) (exec all (act k) r)) (at_turn true op)
          ∙ ap (λ x. runs (exec all) (actions_from (suc k) es) (stepped k x s)) here ∙ ih (stepped k e s)
      by_test false op ih = ap (runs (exec all) (actions_from (suc k) es)) (at_turn false op) ∙ ih (stepped k e s)

-- ---- with what each event reads apart from the memories
abbrev pub with_read : State → List (List ℕ) → State
with_read m read = record { global = m.global; shared = m.shared; loaded = read }

abbrev pub read_by : Effect → State → List ℕ
read_by nothing m = []
read_by (load space at size) m = get space at size m
read_by (store space at size value) m = []
read_by (copy dst src count size) m = []
read_by (bulk_copy dst src size) m = []
read_by (bulk_reduction dst src size o t) m = []

-- the memories after all events, and what each event reads on the way
abbrev pub lasts : List Event → State → State
lasts [] m = m
lasts (e ∷ es) m = lasts es (stepped 0 e m)

abbrev pub reads : List Event → State → List (List ℕ)
reads [] m = []
reads (e ∷ es) m = read_by (effect_of e) m ∷ reads es (stepped 0 e m)

pub step-apart : (e : Effect) (m : State) (done rest : List (List ℕ)) (k : ℕ) → length done ≡ k
    → does k e (with_read m (done ++ ([] ∷ rest))) ≡ with_read (does 0 e m) (done ++ (read_by e m ∷ rest))
step-apart nothing m done rest k h = refl
step-apart (load Global at size) m done rest k h = ap (with_read m) (set_at done [] rest _ k h)
step-apart (load Shared at size) m done rest k h = ap (with_read m) (set_at done [] rest _ k h)
step-apart (store Global at size value) m done rest k h = refl
step-apart (store Shared at size value) m done rest k h = refl
step-apart (copy dst src count size) m done rest k h = refl
step-apart (bulk_copy dst src size) m done rest k h = refl
step-apart (bulk_reduction dst src size o t) m done rest k h = refl

eagerly-apart : (es : List Event) (m : State) (done : List (List ℕ)) (k : ℕ) → length done ≡ k
    → eagerly k es (with_read m (done ++ replicate (length es) [])) ≡ with_read (lasts es m) (done ++ reads es m)
eagerly-apart [] m done k h = refl
eagerly-apart (e ∷ es) m done k h =
    let read = read_by (effect_of e) m in
    let after = reads es (stepped 0 e m) in
    ap (eagerly (suc k) es) (step-apart (effect_of e) m done (replicate (length es) []) k h)
    ∙ rw (← append_assoc done (read ∷ []) (replicate (length es) []), ← append_assoc done (read ∷ []) after)
    (eagerly-apart es (stepped 0 e m) (done ++ (read ∷ [])) (suc k) (length-append done (read ∷ []) ∙ omega arith))

-- what a run that lets each operation act as soon as it is started gives
abbrev pub eager_outcome : List Event → State → Outcome
eager_outcome es m = record { global = (lasts es m).global; shared = (lasts es m).shared; loads = loads_of es (reads es m) }

pub eager_outcome_lem : (es : List Event) (global shared : List ℕ)
    → outcome es global shared (actions_of es) ≡ eager_outcome es (record { global = global; shared = shared; loaded = [] })
eager_outcome_lem es global shared =
    let m : State = record { global = global; shared = shared; loaded = [] } in
    let itself : (d : ℕ) → d < length es → event_at es (0 + d) ≡ event_at es d = λ d l. rw (zero-add d) in
    rw (runs-eagerly es 0 es itself (initial global shared (length es)), eagerly-apart es m [] 0 refl)
