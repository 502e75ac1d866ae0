-- Conditions 2 and 3 over lists.
-- Assumes nothing.
use Prim.Native.Nat.{ℕ, ◌≤◌, ◌<◌, min}
use native.Mathlib.Omega.{arith}
use mathlib.Core.Path.{◌≡◌, sym, ◌∙◌, ap}
use mathlib.Core.Logic.{◌⊎◌, inl, inr}
use mathlib.Core.Bool.{false≢true}
use mathlib.Core.List.{List, [], ◌∷◌, ◌++◌, map}
use Rattle.std.specs.Prelude.{Some}
use lib.ListN.{length, take, length-map, length-take}
use lib.Seq.{get_or-take}
use Rattle.little_endian.specs.Number.{within}
use Rattle.answer.specs.declared.Answer.{Answer}
use Rattle.answer.specs.declared.Answer.TheVariants as answer
use Rattle.answer.specs.Table.{event_limit}
use Rattle.answer.specs.Codes.{code_of, IsAccepted, IsRefusedAtEvent}
use Rattle.event.specs.declared.Event.{Event}
use Rattle.event.specs.declared.Event.TheVariants.{Commit}
use Rattle.decoder.specs.Item.{Item}
use Rattle.std.specs.Prelude.{Ok}
use Rattle.effect.specs.Memory.{State, initial}
use Rattle.rules.specs.declared.Lengths.{Lengths}
use Rattle.rules.specs.Faults.{fault_of}
use Rattle.rules.specs.Orders.{Action, actions_of, PermittedOrder}
use Rattle.rules.specs.Clashes.{Clean}
use Rattle.rules.specs.Answers.{answer_of, answer_of_events}
use Rattle.rules.specs.Right.{WithinLimits, WellFormed, ClashingPair}
use Rattle.rules.specs.Outcomes.{given, outcome}
use Rattle.rules.specs.Waited.{Waited}
use Rattle.rules.specs.Theorems.{Exact, GiveTheSame}
use Rattle.rules.proofs.Orders.{has-order}
use Rattle.rules.proofs.Judged.{Judgement, passes, refused, Through, goes_on_lem, stops, judged-through, judged_right, within-limits, named-clash, one-judgement}
use Rattle.rules.proofs.Accepted.{accepted-items, accepted_well_formed, judged-fault, refused-more}
use Rattle.rules.proofs.Effects.{one-outcome, well_aligned}
use Rattle.rules.proofs.Eager.{eager_outcome_lem}
use Rattle.rules.proofs.Waiting.{clean_kept, well_formed_kept, lasts-kept, loads-kept}

module _ (lengths : Lengths) where
  judgement : (es : List Event) → WellFormed lengths es → Judgement es (answer_of_events lengths es)
  judgement es ok =
      rw (within-limits lengths (map Ok es) (rw length-map ok.limits))
      (judged_right lengths es ok.faultless)

  -- ---- exactly
  judged_clean : (es : List Event) {a : Answer} → Judgement es a → IsAccepted a → Clean es
  judged_clean es (passes c) e = c
  judged_clean es (refused n) e = absurd (omega arith)

  refused-named : (es : List Event) {a : Answer} (j p : ℕ) → Judgement es a → a ≡ answer.Clash j p → ClashingPair es j p
  refused-named es j p (passes c) e = let z : ◌≡◌ {A = ℕ} 1 10 = ap code_of e in absurd (omega arith)
  refused-named es j p (refused {j = k} {partner = q} n) e =
      let f : k ≡ j = cc in
      let g : q ≡ p = cc in
      rw (← f, ← g) n

  by_judgement : (es : List Event) {a : Answer} → Judgement es a
      → Clean es ⊎ ((event : ℕ) × (partner : ℕ) × ClashingPair es event partner)
  by_judgement es (passes c) = inl c
  by_judgement es (refused {j = j} {partner = p} n) = inr (j, p, n)

  pub exact : (es : List Event) → WellFormed lengths es → Exact lengths es
  exact es ok =
      let found = judgement es ok in
      record {
        accepted = (λ e. judged_clean es found (ap code_of e), λ c. one-judgement es found (passes c));
        refused = λ j p. (refused-named es j p found, λ n. one-judgement es found (refused n));
        no_third = by_judgement es found;
      }

  pub shorter : (es : List Event) (k : ℕ) → WellFormed lengths es → WellFormed lengths (take k es)
  shorter es k ok = record {
    limits = record { events = simp length-take (omega (arith, ok.limits.events)); memories = ok.limits.memories };
    faultless = record {
      each = λ i l.
          let h : i < min k (length es) = rw length-take at l in
          rw (get_or-take k es i Commit (omega arith)) (ok.faultless.each i (omega arith));
    };
  }

  pub accepted_clean : (es : List Event) → IsAccepted (answer_of_events lengths es) → Clean es
  accepted_clean es h = judged_clean es (judgement es (accepted_well_formed lengths es h)) h

  clean_accepted : (es : List Event) → WellFormed lengths es → Clean es → IsAccepted (answer_of_events lengths es)
  clean_accepted es ok c = ap code_of ((exact es ok).accepted.1 c)

  -- ---- the first fault
  module _ (bad : Item) (more : List Item) (fault : Answer) where
    after-events : (es : List Event) → WithinLimits lengths (length (map Ok es ++ bad ∷ more))
        → fault_of lengths (length es) bad ≡ Some fault
        → IsAccepted (answer_of_events lengths es) → answer_of lengths (map Ok es ++ bad ∷ more) ≡ fault
    after-events es w q h =
        within-limits lengths (map Ok es ++ bad ∷ more) w
        ∙ by_way (judged-through lengths es (bad ∷ more) (accepted_well_formed lengths es h).faultless)
      where
        by_way : {a : Answer} → Through lengths es (bad ∷ more) a → a ≡ fault
        by_way (goes_on_lem c) = judged-fault lengths es bad more q
        by_way (stops n) = absurd (named-clash es n (accepted_clean es h))

    pub fault-after : (before : List Item) → WithinLimits lengths (length (before ++ bad ∷ more))
        → fault_of lengths (length before) bad ≡ Some fault
        → IsAccepted (answer_of lengths before) → answer_of lengths (before ++ bad ∷ more) ≡ fault
    fault-after before w q h =
        let v = accepted-items lengths before h in
        let es = v.events in
        let k : length (map Ok es) ≡ length es = length-map es Ok in
        rw v.are (after-events es (rw v.are at w) (rw (← k) (rw v.are at q)) (rw v.are at h))

  -- ---- the bytes
  pub same_bytes_lem : (es : List Event) → IsAccepted (answer_of_events lengths es) → (o₁ o₂ : List Action) → PermittedOrder es o₁
      → PermittedOrder es o₂
      → (global shared : List ℕ) → outcome es global shared o₁ ≡ outcome es global shared o₂
  same_bytes_lem es h o₁ o₂ p₁ p₂ global shared =
      ap (given es)
      (one-outcome es (well_aligned lengths es (accepted_well_formed lengths es h)) (accepted_clean es h) o₁ o₂ p₁ p₂
      (initial global shared (length es)))

  -- ---- more waiting
  module _ {es es' : List Event} (r : Waited es es') (n : length es' ≤ event_limit)
      (h : IsAccepted (answer_of_events lengths es)) where
    pub still-accepted : IsAccepted (answer_of_events lengths es')
    still-accepted =
        clean_accepted es' (well_formed_kept lengths r n (accepted_well_formed lengths es h))
        (clean_kept r (accepted_clean es h))

    pub still_the_same : GiveTheSame es es'
    still_the_same o o' p p' global shared =
        same_bytes_lem es' still-accepted o' (actions_of es') p' (has-order es') global shared
        ∙ eager_outcome_lem es' global shared
        ∙ rw (lasts-kept r m, loads-kept r m) (sym (eager_outcome_lem es global shared))
        ∙ same_bytes_lem es h (actions_of es) o (has-order es) p global shared
      where
        m : State
        m = record { global = global; shared = shared; loaded = [] }

  -- ---- more recording
  pub not-accepted : (a : Answer) → IsRefusedAtEvent a → ¬ IsAccepted a
  not-accepted a h e = false≢true (ap (within 5 10) (sym e) ∙ h)

  pub still-refused : (items more : List Item) → length (items ++ more) ≤ event_limit
      → IsRefusedAtEvent (answer_of lengths items) → answer_of lengths (items ++ more) ≡ answer_of lengths items
  still-refused items more n h = refused-more lengths more items n (not-accepted (answer_of lengths items) h)
