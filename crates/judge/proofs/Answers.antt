-- The answer of a list with one item more.
-- Assumes nothing.
use Prim.Native.Nat.{ℕ, ◌<◌}
use native.Mathlib.Omega.{arith}
use mathlib.Core.Path.{◌≡◌, refl, sym, ap, ◌∙◌}
use mathlib.Core.Bool.{Bool, true, false, false≢true}
use mathlib.Core.List.{List, [], ◌∷◌, ◌++◌, map, append-nil}
use Rattle.std.specs.Prelude.{Option, None, Some}
use Rattle.std.proofs.lemmas.Option.{same_Some}
use lib.ListN.{length, length-append, length-map}
use borrow.Author.Tests.{lt-leb}
use Rattle.answer.specs.declared.Answer.{Answer}
use Rattle.answer.specs.declared.Answer.TheVariants.{Accepted, TooManyEvents}
use Rattle.answer.specs.declared.Numbers.{Numbers}
use Rattle.answer.specs.Numbers.{numbers_of}
use Rattle.answer.specs.Table.{event_limit, named_by, fit_named, fit}
use Rattle.answer.specs.Codes.{code_of, IsAccepted, is_accepted}
use Rattle.event.specs.declared.Event.{Event}
use Rattle.event.specs.Fields.{allowed}
use Rattle.decoder.specs.Item.{Item}
use Rattle.std.specs.Prelude.{Ok, Err}
use Rattle.decoder.specs.Kinds.{refusal_of, is_decoded}
use Rattle.checks.specs.Faults.{fault_alone}
use Rattle.rules.specs.declared.Lengths.{Lengths}
use Rattle.rules.specs.Faults.{aligned, in_range, first_of}
use Rattle.rules.specs.Peak.{peak}
use Rattle.rules.specs.Answers.{partner_of, clash_with, or_go_on, judged, answer_of, answer_of_events}
use Rattle.rules.proofs.Judged.{Through, goes_on_lem, stops, judged-through, named-clash, within-limits}
use Rattle.rules.proofs.Accepted.{alone, accepted_well_formed, judged-fault}
use Rattle.rules.proofs.Files.{list_fits}
use Rattle.rules.proofs.Lists.{accepted_clean}

-- ---- no answer of a list is no verdict
pub some-verdict : (lengths : Lengths) (items : List Item) → ¬ (code_of (answer_of lengths items) ≡ 0)
unfolding fit fit_named
some-verdict lengths items e = verdict (numbers_of (answer_of lengths items)) e (list_fits lengths items)
  where
    verdict : (n : Numbers) → n.code ≡ 0 → ¬ (fit n ≡ true)
    verdict n e h =
        false≢true (sym (ap (λ c. fit_named (named_by c) n.event n.partner n.peak) e) ∙ h)

-- ---- past the limit
pub too_many : (lengths : Lengths) (items : List Item) → event_limit < length items → answer_of lengths items ≡ TooManyEvents
unfolding answer_of
too_many lengths items h = rw (lt-leb (length items) event_limit h)

module _ (lengths : Lengths) (es : List Event) (h : IsAccepted (answer_of_events lengths es)) where
  -- ---- after events that are accepted, the judging goes on
  after-accepted : (tail : List Item) → judged lengths [] (map Ok es ++ tail) ≡ judged lengths es tail
  after-accepted tail = by_way (judged-through lengths es tail (accepted_well_formed lengths es h).faultless)
    where
      by_way : {a : Answer} → Through lengths es tail a → a ≡ judged lengths es tail
      by_way (goes_on_lem c) = refl
      by_way (stops pair) = absurd (named-clash es pair (accepted_clean lengths es h))

  pub answer-is : answer_of_events lengths es ≡ Accepted (length es) (peak es (length es))
  unfolding judged
  answer-is =
      within-limits lengths (map Ok es)
      (rw (length-map {B = Item} es Ok) (accepted_well_formed lengths es h).limits)
      ∙ ap (judged lengths []) (sym (append-nil (map Ok es))) ∙ after-accepted []

  pub answer-next : (item : Item) → length es < event_limit
      → answer_of lengths (map Ok es ++ item ∷ []) ≡ judged lengths es (item ∷ [])
  answer-next item few =
      within-limits lengths (map Ok es ++ item ∷ [])
      (record {
        events = omega (arith, length-append (map Ok es) (item ∷ []), length-map {B = Item} es Ok);
        memories = (accepted_well_formed lengths es h).limits.memories;
      })
      ∙ after-accepted (item ∷ [])

-- ---- an item that does not decode
pub judged-undecoded : (lengths : Lengths) (es : List Event) (item : Item) → is_decoded item ≡ false
    → judged lengths es (item ∷ []) ≡ refusal_of (length es) item
unfolding judged
judged-undecoded lengths es (Ok e) h = absurd (false≢true (sym h))
judged-undecoded lengths es (Err undecoded) h = refl

-- ---- an event's own checks, as three tests
passes : (j : ℕ) (f a r : Bool) (clash : Option Answer) (next : Answer) → first_of (alone j f a r) ≡ None
    → or_go_on (first_of (alone j f a r ++ clash ∷ [])) next ≡ or_go_on clash next
passes j true true true None next h = refl
passes j true true true (Some a) next h = refl
passes j true true false clash next h = absurd cc
passes j true false r clash next h = absurd cc
passes j false a r clash next h = absurd cc

no_acceptance : (j : ℕ) (f a r : Bool) {fault : Answer} → first_of (alone j f a r) ≡ Some fault
    → is_accepted fault ≡ false
no_acceptance j true true true h = absurd cc
no_acceptance j true true false h = ap is_accepted (sym (same_Some _ _ h))
no_acceptance j true false r h = ap is_accepted (sym (same_Some _ _ h))
no_acceptance j false a r h = ap is_accepted (sym (same_Some _ _ h))

pub fault-refuses : (lengths : Lengths) (j : ℕ) (e : Event) {fault : Answer} → fault_alone lengths j e ≡ Some fault
    → is_accepted fault ≡ false
fault-refuses lengths j e = no_acceptance j (allowed e) (aligned e) (in_range lengths e)

module _ (lengths : Lengths) (es : List Event) (e : Event) where
  pub judged-refused : {fault : Answer} → fault_alone lengths (length es) e ≡ Some fault
      → judged lengths es (Ok e ∷ []) ≡ fault
  judged-refused = judged-fault lengths es (Ok e) []

  pub judged-passed : fault_alone lengths (length es) e ≡ None
      → judged lengths es (Ok e ∷ [])
      ≡ or_go_on (clash_with (length es) (partner_of es e))
      (Accepted (length (es ++ e ∷ [])) (peak (es ++ e ∷ []) (length (es ++ e ∷ []))))
  unfolding judged
  judged-passed =
      passes (length es) (allowed e) (aligned e) (in_range lengths e) (clash_with (length es) (partner_of es e))
      (Accepted (length (es ++ e ∷ [])) (peak (es ++ e ∷ []) (length (es ++ e ∷ []))))
