-- Where no accesses clash, actions that can come either way commute.
-- Assumes nothing.
use Prim.Native.Nat.{ℕ, ◌%◌, ◌<◌}
use native.Mathlib.Omega.{arith}
use mathlib.Core.Path.{◌≡◌, refl, sym, ◌∙◌, ap}
use mathlib.Core.Logic.{◌⊎◌, inl, inr}
use mathlib.Core.Bool.{Bool, true, false, true≢false}
use mathlib.Core.List.{List}
use lib.ListN.{length}
use borrow.Author.Tests.{eqb-true}
use Rattle.little_endian.proofs.Tests.{both, all_three}
use Rattle.event.specs.declared.ElementType.{ElementType}
use Rattle.event.specs.declared.ElementType.TheVariants.{B32, U32, S32}
use Rattle.event.specs.declared.Event.{Event}
use Rattle.event.specs.declared.Event.TheVariants.{Load, Store, Copy, Commit, Wait, WaitAll, BulkCopy, BulkReduction, BulkCommit, BulkWait}
use Rattle.event.specs.Fields.{allowed}
use Rattle.effect.specs.Memory.{State}
use Rattle.effect.specs.Element.{width}
use Rattle.effect.specs.Effect.{Effect, does, MayShare}
use Rattle.effect.specs.Theorems.{OnElements, Apart}
use Rattle.effect.proofs.Commute.{commute}
use Rattle.order.specs.Order.{◌∈◌, Commute, runs}
use Rattle.order.proofs.Confluence.{all-agree}
use Rattle.rules.specs.Events.{effect_of, event_at}
use Rattle.rules.specs.declared.Lengths.{Lengths}
use Rattle.rules.specs.Faults.{multiple_of, aligned, in_range}
use Rattle.rules.specs.Closing.{is_operation}
use Rattle.rules.specs.Orders.{Action, turn, act, moment_of, actions_of, Must, PermittedOrder, CanComeEitherWay}
use Rattle.rules.specs.Clashes.{Clean}
use Rattle.rules.specs.Tests.{may_share}
use Rattle.rules.specs.Right.{WellFormed}
use Rattle.rules.specs.Outcomes.{exec}
use Rattle.rules.proofs.Actions.{event, Happens, in_actions}
use Rattle.rules.proofs.Orders.{other-event, first_of_list, second_of_list}
use Rattle.rules.proofs.Meeting.{may_share_tells}

-- ---- an aligned reduction begins at an element
on_elements : (t : ElementType) (dst : ℕ) → dst % 16 ≡ 0 → dst % width t ≡ 0
on_elements B32 dst e = omega arith
on_elements U32 dst e = omega arith
on_elements S32 dst e = omega arith

aligned-effect : (e : Event) → aligned e ≡ true → OnElements (effect_of e)
unfolding aligned
aligned-effect (Load address size) h = tt
aligned-effect (Store address size low high) h = tt
aligned-effect (Copy dst src cp_size mode cache) h = tt
aligned-effect Commit h = tt
aligned-effect (Wait n) h = tt
aligned-effect WaitAll h = tt
aligned-effect (BulkCopy dst src size) h = tt
aligned-effect (BulkReduction dst src size o t) h =
    on_elements t dst.0 (eqb-true (dst.0 % 16) 0 (both (multiple_of 16 dst.0) (multiple_of 16 src.0) h).0)
aligned-effect BulkCommit h = tt
aligned-effect (BulkWait n) h = tt

module _ (es : List Event) where
  abbrev effect : Action → Effect
  effect a = effect_of (event_at es (event a))

  -- the action is that at which its event does what it does
  abbrev IsMoment : Action → Type 0
  IsMoment a = moment_of (is_operation (event_at es (event a))) (event a) ≡ a

  -- an action does nothing, or it is the moment of its event and has its effect
  data Does (a : Action) : Type 0 where
    idle : ((s : State) → exec es a s ≡ s) → Does a
    acts : IsMoment a → ((s : State) → exec es a s ≡ does (event a) (effect a) s) → Does a

  what : (a : Action) → Happens a (event_at es (event a)) → Does a
  what (act i) op = acts (rw op) (λ s. refl)
  what (turn i) h = by_test (is_operation (event_at es i)) refl
    where
      by_test : (t : Bool) → is_operation (event_at es i) ≡ t → Does (turn i)
      by_test true e = idle (λ s. rw e)
      by_test false e = acts (rw e) (λ s. rw e)

module _ (es : List Event) (aligns : (i : ℕ) → i < length es → aligned (event_at es i) ≡ true) (clean : Clean es) where
  module _ (a b : Action) (free : CanComeEitherWay es a b) where
    in_first : a ∈ actions_of es
    in_first = first_of_list es free

    in_second : b ∈ actions_of es
    in_second = second_of_list es free

    -- accesses that met would clash
    apart : IsMoment es a → IsMoment es b → ¬ MayShare (effect es a) (effect es b) → Apart (effect es a) (effect es b)
    apart p q no-share x y l m meet = clean.no_clash (event a) (event b) (record {
      x = x;
      y = y;
      clash = record {
        first_made = record { below = (in_actions es in_first).0; made = l };
        second_made = record { below = (in_actions es in_second).0; made = m };
        meet = meet;
        may_not_share = no-share;
        either_way = rw (p, q) free;
      };
    })

    share_or_apart : IsMoment es a → IsMoment es b → MayShare (effect es a) (effect es b) ⊎ Apart (effect es a) (effect es b)
    share_or_apart p q = by_test (may_share (effect es a) (effect es b)) refl
      where
        by_test : (t : Bool) → may_share (effect es a) (effect es b) ≡ t
            → MayShare (effect es a) (effect es b) ⊎ Apart (effect es a) (effect es b)
        by_test true h = inl ((may_share_tells (effect es a) (effect es b)).0 h)
        by_test false h = inr (apart p q (λ m. true≢false (sym ((may_share_tells (effect es a) (effect es b)).1 m) ∙ h)))

    both-act : IsMoment es a → IsMoment es b → (s : State)
        → does (event b) (effect es b) (does (event a) (effect es a) s)
        ≡ does (event a) (effect es a) (does (event b) (effect es b) s)
    both-act p q =
        commute (event a) (event b) (effect es a) (effect es b) (other-event es a b free)
        (aligned-effect (event_at es (event a)) (aligns (event a) (in_actions es in_first).0))
        (aligned-effect (event_at es (event b)) (aligns (event b) (in_actions es in_second).0))
        (share_or_apart p q)

    commutes : Commute (exec es) a b
    commutes = by_what (what es a (in_actions es in_first).1) (what es b (in_actions es in_second).1)
      where
        by_what : Does es a → Does es b → Commute (exec es) a b
        by_what (idle f) d s = ap (exec es b) (f s) ∙ sym (f (exec es b s))
        by_what (acts p f) (idle g) s = g (exec es a s) ∙ sym (ap (exec es a) (g s))
        by_what (acts p f) (acts q g) s =
            ap (exec es b) (f s) ∙ g (does (event a) (effect es a) s) ∙ both-act p q s
            ∙ sym (ap (exec es a) (g s) ∙ f (does (event b) (effect es b) s))

  pub one-outcome : (o₁ o₂ : List Action) → PermittedOrder es o₁ → PermittedOrder es o₂
      → (s : State) → runs (exec es) o₁ s ≡ runs (exec es) o₂ s
  one-outcome = all-agree (exec es) (actions_of es) (Must es) commutes

pub well_aligned : (lengths : Lengths) (es : List Event) → WellFormed lengths es
    → (i : ℕ) → i < length es → aligned (event_at es i) ≡ true
well_aligned lengths es ok i l =
    (all_three (allowed (event_at es i)) (aligned (event_at es i)) (in_range lengths (event_at es i))
    (ok.faultless.each i l)).1
