-- The tables of specs/Examples.antt, computed from the definitions, and two orders of K2.
-- Assumes nothing.
use Prim.Native.Nat.{ℕ, zero, suc, ◌<◌}
use native.Mathlib.Omega.{arith}
use mathlib.Core.Path.{refl}
use mathlib.Core.Bool.{false≢true}
use mathlib.Core.List.Memᴰ
use mathlib.Core.List.{List, [], ◌∷◌}
use Rattle.little_endian.specs.Number.{bytes_of}
use Rattle.event.specs.Fields.{is_value, allowed}
use Rattle.order.specs.Order.{◌∈◌, Before, first, later, SameActions}
use Rattle.order.proofs.Before.{not_nil}
use Rattle.rules.specs.Faults.{aligned, in_range}
use Rattle.rules.specs.Closing.{groups, closed_by, is_open}
use Rattle.rules.specs.Orders.{Action, turn, act, actions_of, Must, in_turn, started, closed, PermittedOrder}
use Rattle.rules.specs.Peak.{peak}
use Rattle.rules.specs.Tests.{clashes}
use Rattle.rules.specs.Answers.{judged, answer_of}
use Rattle.rules.specs.Examples.{wrong_readings, examples, ReadRight, BothSides, worked_runs, RunsGive, unwaited, CopyMayNotHaveLanded}
use Rattle.rules.proofs.Actions.{in_actions}
use Rattle.rules.proofs.Orders.{has-order}

pub read_right : ReadRight
unfolding ReadRight wrong_readings bytes_of is_value allowed aligned in_range groups closed_by is_open peak clashes judged answer_of
read_right = refl

pub both_sides : BothSides
unfolding BothSides examples bytes_of is_value allowed aligned in_range groups closed_by is_open peak clashes judged answer_of
both_sides = refl

pub runs_give : RunsGive
unfolding RunsGive worked_runs bytes_of
runs_give = refl

-- ---- the order of K2 in which the copy acts after the load
abbrev late : List Action
late = turn 0 ∷ turn 1 ∷ act 0 ∷ []

late-all : SameActions (actions_of unwaited) late
late-all a = (there, back)
  where
    there : a ∈ actions_of unwaited → a ∈ late
    there (Memᴰ.head e) = Memᴰ.head e
    there (Memᴰ.tail (Memᴰ.head e)) = Memᴰ.tail (Memᴰ.tail (Memᴰ.head e))
    there (Memᴰ.tail (Memᴰ.tail (Memᴰ.head e))) = Memᴰ.tail (Memᴰ.head e)
    there (Memᴰ.tail (Memᴰ.tail (Memᴰ.tail m))) = absurd (Memᴰ.not-nil m)

    back : a ∈ late → a ∈ actions_of unwaited
    back (Memᴰ.head e) = Memᴰ.head e
    back (Memᴰ.tail (Memᴰ.head e)) = Memᴰ.tail (Memᴰ.tail (Memᴰ.head e))
    back (Memᴰ.tail (Memᴰ.tail (Memᴰ.head e))) = Memᴰ.tail (Memᴰ.head e)
    back (Memᴰ.tail (Memᴰ.tail (Memᴰ.tail m))) = absurd (Memᴰ.not-nil m)

abbrev position : Action → ℕ
position (turn i) = i
position (act i) = suc (suc i)

late_positions : {a b : Action} → Before a b late → position a < position b
late_positions (first e (Memᴰ.head f)) = rw (e, f) (omega arith)
late_positions (first e (Memᴰ.tail (Memᴰ.head f))) = rw (e, f) (omega arith)
late_positions (first e (Memᴰ.tail (Memᴰ.tail m))) = absurd (Memᴰ.not-nil m)
late_positions (later (first e (Memᴰ.head f))) = rw (e, f) (omega arith)
late_positions (later (first e (Memᴰ.tail m))) = absurd (Memᴰ.not-nil m)
late_positions (later (later (first e m))) = absurd (Memᴰ.not-nil m)
late_positions (later (later (later h))) = absurd (not_nil h)

late-keeps : (a b : Action) → a ∈ actions_of unwaited → b ∈ actions_of unwaited → Must unwaited a b → Before a b late
unfolding groups closed_by
late-keeps a b l m (in_turn {i = zero} {j = zero} h) = absurd (omega arith)
late-keeps a b l m (in_turn {i = zero} {j = suc zero} h) = first refl (Memᴰ.head refl)
late-keeps a b l m (in_turn {i = zero} {j = suc (suc j)} h) = absurd (omega (arith, (in_actions unwaited m).0))
late-keeps a b l m (in_turn {i = suc i} {j = j} h) = absurd (omega (arith, (in_actions unwaited m).0))
late-keeps a b l m (started {i = zero}) = first refl (Memᴰ.tail (Memᴰ.head refl))
late-keeps a b l m (started {i = suc zero}) = absurd (false≢true (in_actions unwaited m).1)
late-keeps a b l m (started {i = suc (suc i)}) = absurd (omega (arith, (in_actions unwaited m).0))
late-keeps a b l m (closed {i = i} {w = zero} c) = absurd (false≢true c)
late-keeps a b l m (closed {i = i} {w = suc zero} c) = absurd (false≢true c)
late-keeps a b l m (closed {i = i} {w = suc (suc w)} c) = absurd (omega (arith, (in_actions unwaited m).0))

late-permitted : PermittedOrder unwaited late
late-permitted = record { once = λ a h. omega (arith, late_positions h); all = late-all; keeps = late-keeps }

pub copy_may_not_have_landed : CopyMayNotHaveLanded
unfolding CopyMayNotHaveLanded
copy_may_not_have_landed = (has-order unwaited, refl, late-permitted, refl)
