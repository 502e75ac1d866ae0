-- Which actions of a list can come either way: the bridge from permitted orders to what a wait has closed.
-- Assumes nothing.
use Prim.Native.Nat.{ℕ, suc, ◌≤◌, ◌<◌}
use native.Mathlib.Omega.{arith}
use native.Mathlib.Decide.{ℕ_discrete}
use mathlib.Core.Path.{◌≡◌, sym, ◌∙◌, ap}
use mathlib.Core.Logic.{◌≢◌, ◌↔◌}
use mathlib.Core.Bool.{Bool, true, false, true≢false}
use mathlib.Mathlib.Data.Bool.Basic.{eq-false_of_not-eq-true}
use mathlib.Core.List.{List}
use lib.Dec.{ltb, leb}
use borrow.Author.Tests.{ltb-true, leb-true, lt-ltb, le-leb}
use Rattle.event.specs.declared.Event.{Event}
use Rattle.order.specs.Order.{◌∈◌, Before, CanPrecede}
use Rattle.order.proofs.Before.{transitive, asymmetric, first_in, second_in}
use Rattle.order.specs.Theorems.{Closure}
use Rattle.order.proofs.EitherWay.{either_way}
use Rattle.rules.specs.Events.{event_at}
use Rattle.rules.specs.Search.{any_below}
use Rattle.rules.specs.Closing.{closed_by, is_operation}
use Rattle.rules.specs.Orders.{Action, turn, act, actions_of, Must, in_turn, started, closed, PermittedOrder, CanComeEitherWay}
use Rattle.rules.proofs.Search.{some_below, any_below_lem}
use Rattle.rules.proofs.Counting.{closing_by_counting, closes-earlier}
use Rattle.rules.proofs.Actions.{action_discrete, event, rank, rank-event, turn-rank, in_actions, is_in_actions, actions_rank, rank-before}

module _ (es : List Event) where
  -- no wait up to event j closes the operation of event i
  abbrev pub OpenUpTo : ℕ → ℕ → Type 0
  OpenUpTo j i = (w : ℕ) → w ≤ j → closed_by es i w ≡ false

  -- the rules with all that follows from them, as one test
  abbrev pub precedes : Action → Action → Bool
  precedes (turn i) (turn j) = ltb i j
  precedes (turn i) (act j) = leb i j
  precedes (act i) x = any_below (closed_by es i) (suc (event x))

  closed-earlier : (i w : ℕ) → closed_by es i w ≡ true → i < w
  closed-earlier i w h = closes-earlier ((closing_by_counting es i w).0 h)

  -- an operation precedes x just if it is not open up to x
  pub open_not_precedes : (i j : ℕ) → (any_below (closed_by es i) (suc j) ≡ false) ↔ OpenUpTo j i
  open_not_precedes i j = (none-closes, not_any)
    where
      none-closes : any_below (closed_by es i) (suc j) ≡ false → OpenUpTo j i
      none-closes h w le = eq-false_of_not-eq-true
          (λ c. true≢false (sym (any_below_lem (closed_by es i) (suc j) w (omega arith) c) ∙ h))

      not_any : OpenUpTo j i → any_below (closed_by es i) (suc j) ≡ false
      not_any h = eq-false_of_not-eq-true
          (λ e. let (w, l, c) = some_below (closed_by es i) (suc j) e in true≢false (sym c ∙ h w (omega arith)))

  must_precedes : {a b : Action} → Must es a b → precedes a b ≡ true
  must_precedes (in_turn {i = i} {j = j} h) = lt-ltb i j h
  must_precedes (started {i = i}) = le-leb i i (omega arith)
  must_precedes (closed {i = i} {w = w} c) = any_below_lem (closed_by es i) (suc w) w (omega arith) c

  -- a turn precedes whatever has a higher rank
  turn-precedes : (i : ℕ) (b : Action) → rank (turn i) < rank b → precedes (turn i) b ≡ true
  unfolding rank
  turn-precedes i (turn j) lt = lt-ltb i j (omega arith)
  turn-precedes i (act j) lt = le-leb i j (omega arith)

  precedes-rank : (a b : Action) → precedes a b ≡ true → rank a < rank b
  unfolding rank
  precedes-rank (turn i) (turn j) h = omega (arith, ltb-true i j h)
  precedes-rank (turn i) (act j) h = omega (arith, leb-true i j h)
  precedes-rank (act i) b h =
      let (w, l, c) = some_below (closed_by es i) (suc (event b)) h in
      omega (arith, closed-earlier i w c, rank-event b)

  precedes-transitive : (a b c : Action) → precedes a b ≡ true → precedes b c ≡ true → precedes a c ≡ true
  precedes-transitive (turn i) b c h k =
      turn-precedes i c (omega (arith, precedes-rank (turn i) b h, precedes-rank b c k))
  precedes-transitive (act i) b c h k =
      let (w, l, e) = some_below (closed_by es i) (suc (event b)) h in
      any_below_lem (closed_by es i) (suc (event c)) w (omega (arith, precedes-rank b c k, rank-event b, rank-event c)) e

  -- every list has a permitted order: the one in which each operation acts as soon as it is started
  pub has-order : PermittedOrder es (actions_of es)
  has-order = record {
    once = λ a h. omega (arith, actions_rank es h);
    all = λ a. (λ m. m, λ m. m);
    keeps = λ a b l m h. rank-before es (precedes-rank a b (must_precedes h)) l m;
  }

  turn_in : {b : Action} → b ∈ actions_of es → (i : ℕ) → i ≤ event b → turn i ∈ actions_of es
  turn_in m i l = is_in_actions es (turn i) (omega (arith, (in_actions es m).0)) tt

  module _ (o : List Action) (ok : PermittedOrder es o) where
    turn-kept : (i : ℕ) (b : Action) → turn i ∈ actions_of es → b ∈ actions_of es → rank (turn i) < rank b
        → Before (turn i) b o
    unfolding rank
    turn-kept i (turn j) l m lt = ok.keeps (turn i) (turn j) l m (in_turn (omega arith))
    turn-kept i (act j) l m lt =
        let k = turn_in m j (omega arith) in
        let start : Before (turn j) (act j) o = ok.keeps (turn j) (act j) k m started in
        elim (ℕ_discrete i j) [
          | yes e ↦ rw e start
          | no ne ↦ transitive ok.once (ok.keeps (turn i) (turn j) l k (in_turn (omega arith))) start
        ]

    precedes-kept : (a b : Action) → a ∈ actions_of es → b ∈ actions_of es → precedes a b ≡ true → Before a b o
    precedes-kept (turn i) b l m h = turn-kept i b l m (precedes-rank (turn i) b h)
    precedes-kept (act i) b l m h =
        let (w, le, c) = some_below (closed_by es i) (suc (event b)) h in
        let k = turn_in m w (omega arith) in
        let close : Before (act i) (turn w) o = ok.keeps (act i) (turn w) l k (closed c) in
        elim (action_discrete (turn w) b) [
          | yes e ↦ rw (← e) close
          | no ne ↦ transitive ok.once close (turn-kept w b k m (turn-rank w b (omega arith) ne))
        ]

  precedes_closure : Closure (actions_of es) (Must es) precedes
  precedes_closure = record {
    includes = λ a b l m. must_precedes;
    kept = precedes-kept;
    transitive = λ a b c la lb lc. precedes-transitive a b c;
  }

  -- an operation and an action of a later event can come either way just if the operation is open up to that event
  pub operation-free : (i : ℕ) (x : Action) → is_operation (event_at es i) ≡ true → x ∈ actions_of es → i < event x
      → CanComeEitherWay es (act i) x ↔ OpenUpTo (event x) i
  operation-free i x op m lt = (λ e. unclosed.0 (free.0 e).0, λ h. free.1 (unclosed.1 h, not_back))
    where
      in_acts : act i ∈ actions_of es
      in_acts = is_in_actions es (act i) (omega (arith, (in_actions es m).0)) op

      free : CanComeEitherWay es (act i) x ↔ ((precedes (act i) x ≡ false) × (precedes x (act i) ≡ false))
      free =
          either_way action_discrete precedes_closure (actions_of es) has-order (act i) x in_acts m
          (λ e. omega (arith, ap event e))

      unclosed : (precedes (act i) x ≡ false) ↔ OpenUpTo (event x) i
      unclosed = open_not_precedes i (event x)

      not_back : precedes x (act i) ≡ false
      not_back =
          eq-false_of_not-eq-true
          (λ h. omega (arith, precedes-rank x (act i) h, rank-event x, rank-event (act i)))

  -- a turn never comes either way with another action of its event or of a later one
  pub turn_fixed : (i : ℕ) (x : Action) → x ∈ actions_of es → i ≤ event x → turn i ≢ x → ¬ CanComeEitherWay es (turn i) x
  turn_fixed i x m le ne e =
      let free = either_way action_discrete precedes_closure (actions_of es) has-order (turn i) x (turn_in m i le) m ne
      in
      true≢false (sym (turn-precedes i x (turn-rank i x le ne)) ∙ (free.0 e).0)

  -- both are actions of the list, and of different events
  pub first_of_list : {a b : Action} → CanComeEitherWay es a b → a ∈ actions_of es
  first_of_list {a} w = (w.one_way.permitted.all a).1 (first_in w.one_way.before)

  pub second_of_list : {a b : Action} → CanComeEitherWay es a b → b ∈ actions_of es
  second_of_list {b = b} w = (w.one_way.permitted.all b).1 (second_in w.one_way.before)

  not-before-start : (i : ℕ) → ¬ CanPrecede (actions_of es) (Must es) (act i) (turn i)
  not-before-start i c =
      let ok = c.permitted in
      let start : turn i ∈ actions_of es = (ok.all (turn i)).1 (second_in c.before) in
      let acts : act i ∈ actions_of es = (ok.all (act i)).1 (first_in c.before) in
      asymmetric ok.once c.before (ok.keeps (turn i) (act i) start acts started)

  pub other-event : (a b : Action) → CanComeEitherWay es a b → event a ≢ event b
  other-event (turn i) (turn j) w e = w.one_way.permitted.once (turn j) (rw e at w.one_way.before)
  other-event (turn i) (act j) w e = not-before-start j (rw e at w.other_way)
  other-event (act i) (turn j) w e = not-before-start j (rw e at w.one_way)
  other-event (act i) (act j) w e = w.one_way.permitted.once (act j) (rw e at w.one_way.before)
