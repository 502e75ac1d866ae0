-- A step carries on what the judge leaves.
-- Assumes nothing.
use Prim.Native.Nat.{ℕ, suc, ◌+◌, ◌≤◌, ◌<◌, min}
use native.Mathlib.Omega.{arith}
use native.Mathlib.Decide.{dec_lt}
use mathlib.Core.Path.{◌≡◌, refl, sym, ap, subst, ◌∙◌}
use mathlib.Core.Bool.{Bool, true, false, cond, true≢false}
use mathlib.Core.List.{List, [], ◌∷◌, ◌++◌, map, map-append}
use Rattle.std.specs.Prelude.{Option, None, Some}
use Rattle.std.specs.Option.{unwrap_or}
use Rattle.std.proofs.lemmas.Option.{none-some}
use lib.ListN.{length, length-append, length-map}
use borrow.Author.Tests.{ne_eqb}
use Rattle.answer.specs.declared.Answer.{Answer}
use Rattle.answer.specs.declared.Answer.TheVariants as answer
use Rattle.answer.specs.Table.{event_limit}
use Rattle.answer.specs.Codes.{code_of, IsAccepted, is_accepted}
use Rattle.event.specs.declared.Event.{Event}
use Rattle.decoder.specs.Item.{Item}
use Rattle.decoder.specs.declared.Undecoded.TheVariants.{UnknownKind, WrongBodyLength, FieldNotAllowed}
use Rattle.std.specs.Prelude.{Ok, Err}
use Rattle.decoder.specs.Kinds.{refusal_of, is_decoded}
use Rattle.checks.specs.Faults.{fault_alone}
use Rattle.operations.specs.declared.Record.{Record}
use Rattle.operations.specs.Table.{range_words, mark_words, placed}
use Rattle.parts.specs.declared.Part.{Part}
use Rattle.parts.specs.Parts.{part_of}
use Rattle.rules.specs.declared.Lengths.{Lengths}
use Rattle.rules.specs.Peak.{peak}
use Rattle.rules.specs.Answers.{partner_of, clash_with, or_go_on, judged, answer_of, answer_of_events}
use Rattle.rules.proofs.Accepted.{refused-more}
use Rattle.judge.specs.declared.State.{State}
use Rattle.judge.specs.AsLeft.{made_by, open_records, tracking, ended, AsLeft, Carried}
use Rattle.judge.specs.Step.{goes_on, counted, refused_by, passed_to, After, leaving, clash_in, left_by, or_fault, event_leaves, item_leaves, step_of, Stepped}
use Rattle.judge.proofs.Acting.{Holds, records_after, made_after, if_clash, Acted, acted}
use Rattle.judge.proofs.Sound.{going, counted-past, counted-on}
use Rattle.judge.proofs.Opens.{length_open, records-next, partner_found, tracking-next}
use Rattle.judge.proofs.Answers.{too_many, answer-next, judged-undecoded, fault-refuses, judged-refused, judged-passed}
use Rattle.judge.proofs.Leaving.{How, passing, over, how, open_at, carried-refused, carried-passed, goes_on_if}

one_more : {A : Type 0} (xs : List A) (x : A) → length (xs ++ x ∷ []) ≡ length xs + 1
one_more xs x = length-append xs (x ∷ [])

refusal_no_acceptance : (a : Answer) → ¬ IsAccepted a → is_accepted a ≡ false
refusal_no_acceptance a h = ne_eqb (code_of a) 1 h

refused_item : (j : ℕ) (item : Item) → is_decoded item ≡ false → is_accepted (refusal_of j item) ≡ false
refused_item j (Ok e) h = absurd (true≢false h)
refused_item j (Err UnknownKind) h = refl
refused_item j (Err WrongBodyLength) h = refl
refused_item j (Err FieldNotAllowed) h = refl

module _ {lengths : Lengths} {items : List Item} {s : State} {ranges marks : List ℕ}
    (left : AsLeft lengths items s ranges marks) where
  -- ---- the judge does not go on
  -- a list past the limit has too many events
  past : (item : Item) (s' : State) → event_limit ≤ length items → s' ≡ ended lengths (suc event_limit) answer.TooManyEvents
      → Carried lengths items item ranges marks s' ranges marks
  past item s' full e =
      carried-refused lengths items item ranges marks left.ranges_long left.marks_long answer.TooManyEvents
      (suc event_limit) s' (too_many lengths (items ++ item ∷ []) (omega (arith, one_more items item))) refl
      (omega (arith, one_more items item)) e

  full_if : (es : List Event) → items ≡ map Ok es → IsAccepted (answer_of_events lengths es) → s ≡ tracking lengths es
      → goes_on s (length ranges) (length marks) ≡ false → event_limit ≤ length items
  full_if es are h state stops = elim (dec_lt (length es) event_limit) [
    | yes few ↦ absurd (true≢false (sym (goes_on_if lengths es h (length ranges) (length marks) left.ranges_long
        left.marks_long few) ∙ ap (λ t. goes_on t (length ranges) (length marks)) (sym state) ∙ stops))
    | no full ↦ omega (arith, ap length are, length-map {B = Item} es Ok)
  ]

  -- after a refusal events are counted
  counted_on : (item : Item) (s' : State) → ¬ IsAccepted (answer_of lengths items)
      → s ≡ ended lengths (min (length items) (suc event_limit)) (answer_of lengths items) → s' ≡ counted s
      → Carried lengths items item ranges marks s' ranges marks
  counted_on item s' h state e = elim (dec_lt (length items) event_limit) [
    | yes few ↦ (
        let same = refused-more lengths (item ∷ []) items (omega (arith, one_more items item)) h in
        let events : s.events ≡ length items = ap (λ (t : State). t.events) state ∙ omega arith in
        carried-refused lengths items item ranges marks left.ranges_long left.marks_long (answer_of lengths items)
        (length items + 1) s' same (refusal_no_acceptance (answer_of lengths items) h) (omega (arith, one_more items item))
        (e ∙ counted-on s (omega arith)
        ∙ (λ i. ended (state i).lengths (events i + 1) (unwrap_or (state i).refusal answer.WrongShape))))
    | no full ↦
        past item s' (omega arith)
        (e ∙ counted-past s (omega (arith, ap (λ (t : State). t.events) state))
        ∙ (λ i. ended (state i).lengths (suc event_limit) answer.TooManyEvents))
  ]

  carried-counted : (item : Item) (s' : State) → goes_on s (length ranges) (length marks) ≡ false → s' ≡ counted s
      → Carried lengths items item ranges marks s' ranges marks
  carried-counted item s' stops e = by_way (how left)
    where
      by_way : How lengths items s ranges marks → Carried lengths items item ranges marks s' ranges marks
      by_way (passing es are h state in_ranges_lem in_marks) =
          let full = full_if es are h state stops in
          let events = ap (λ (t : State). t.events) state in
          past item s' full
          (e ∙ counted-past s (omega (arith, events, ap length are, length-map {B = Item} es Ok))
          ∙ (λ i. ended (state i).lengths (suc event_limit) answer.TooManyEvents))
      by_way (over h state) = counted_on item s' h state e

  -- ---- the judge goes on
  -- then nothing is refused, and one event more is within the limit
  record Goes (item : Item) : Type 0 where
    es : List Event
    are : items ≡ map Ok es
    accepted : IsAccepted (answer_of_events lengths es)
    state : s ≡ tracking lengths es
    in_ranges_lem : ranges ≡ placed range_words (open_at es) ranges
    in_marks : marks ≡ placed mark_words (open_at es) marks
    few : length es < event_limit
    next : answer_of lengths (items ++ item ∷ []) ≡ judged lengths es (item ∷ [])

  goes : goes_on s (length ranges) (length marks) ≡ true → (item : Item) → Goes item
  goes on item = by_way (how left)
    where
      known : s.events < event_limit
      known = (going s (length ranges) (length marks) on).events_most

      by_way : How lengths items s ranges marks → Goes item
      by_way (passing es are h state in_ranges_lem in_marks) =
          let few : length es < event_limit = omega (arith, known, ap (λ (t : State). t.events) state) in
          record {
            es = es;
            are = are;
            accepted = h;
            state = state;
            in_ranges_lem = in_ranges_lem;
            in_marks = in_marks;
            few = few;
            next = ap (λ l. answer_of lengths (l ++ item ∷ [])) are ∙ answer-next lengths es h item few;
          }
      by_way (over h state) =
          absurd (none-some _ (sym (going s (length ranges) (length marks) on).none_refused
          ∙ ap (λ (t : State). t.refusal) state))

  abbrev CarriedTo : Item → After → Type 0
  CarriedTo item after = Carried lengths items item ranges marks after.state after.ranges after.marks

  module _ (on : goes_on s (length ranges) (length marks) ≡ true) where
    -- an item is refused with this answer
    refused_with : (item : Item) (a : Answer) (s' : State) → Goes item → answer_of lengths (items ++ item ∷ []) ≡ a
        → is_accepted a ≡ false → s' ≡ refused_by s a → Carried lengths items item ranges marks s' ranges marks
    refused_with item a s' g q refusal e =
        let events = ap (λ (t : State). t.events) g.state in
        let count : s.events + 1 ≡ min (length (items ++ item ∷ [])) (suc event_limit) =
        omega (arith, one_more items item, events, ap length g.are, length-map {B = Item} g.es Ok, g.few) in
        carried-refused lengths items item ranges marks left.ranges_long left.marks_long a (s.events + 1) s' q refusal count
        (e ∙ (λ i. ended (g.state i).lengths (s.events + 1) a))

    carried-undecoded : (item : Item) (s' : State) → is_decoded item ≡ false → s' ≡ refused_by s (refusal_of s.events item)
        → Carried lengths items item ranges marks s' ranges marks
    carried-undecoded item s' no-event e =
        let g = goes on item in
        let events = ap (λ (t : State). t.events) g.state in
        refused_with item (refusal_of s.events item) s' g
        (g.next ∙ judged-undecoded lengths g.es item no-event ∙ ap (λ n. refusal_of n item) (sym events))
        (refused_item s.events item no-event) e

    -- an event's own checks are those of its place in the list
    its-fault : (e : Event) (g : Goes (Ok e)) → fault_alone s.lengths s.events e ≡ fault_alone lengths (length g.es) e
    its-fault e g = λ i. fault_alone (g.state i).lengths (g.state i).events e

    carried-fault : (event : Event) (fault : Answer) → fault_alone s.lengths s.events event ≡ Some fault
        → CarriedTo (Ok event) (leaving (refused_by s fault) ranges marks)
    carried-fault event fault found =
        let g = goes on (Ok event) in
        refused_with (Ok event) fault (refused_by s fault) g
        (g.next ∙ judged-refused lengths g.es event (sym (its-fault event g) ∙ found))
        (fault-refuses s.lengths s.events event found) refl

    -- what an event without fault leaves
    module _ (event : Event) (passes : fault_alone s.lengths s.events event ≡ None) where
      abbrev g : Goes (Ok event)
      g = goes on (Ok event)

      abbrev n : ℕ
      n = length g.es

      abbrev longer : List Event
      longer = g.es ++ event ∷ []

      abbrev its-part : Part
      its-part = part_of n (made_by g.es n) event

      abbrev after : After
      after = left_by (part_of s.events s.made event) s ranges marks

      holds : Holds (open_at g.es) s ranges marks
      holds = record {
        all = ap (λ (t : State). t.unclosed) g.state ∙ sym (length_open g.es n n);
        in_ranges_lem = g.in_ranges_lem;
        in_marks = g.in_marks;
      }

      left_by_records : Acted its-part (open_at g.es) (tracking lengths g.es) ranges marks after
      left_by_records =
          let known = going s (length ranges) (length marks) on in
          subst (λ t. Acted (part_of t.events t.made event) (open_at g.es) t ranges marks after) g.state
          (acted (open_at g.es) s ranges marks holds (omega arith) left.ranges_long left.marks_long
          (part_of s.events s.made event))

      answered : (o : Option ℕ) → partner_of g.es event ≡ o
          → answer_of lengths (items ++ Ok event ∷ [])
          ≡ or_go_on (clash_with n o) (answer.Accepted (length longer) (peak longer (length longer)))
      answered o q =
          g.next ∙ judged-passed lengths g.es event (sym (its-fault event g) ∙ passes)
          ∙ ap (λ o. or_go_on (clash_with n o) (answer.Accepted (length longer) (peak longer (length longer)))) q

      -- what is left depends on the partner
      found : (o : Option ℕ) → partner_of g.es event ≡ o → clash_in its-part (open_at g.es) ≡ o
      found o q = partner_found g.es event ∙ q

      abbrev next : State
      next =
          passed_to (tracking lengths g.es) (length (records_after its-part (open_at g.es)))
          (made_after its-part (made_by g.es n))

      states : (o : Option ℕ) → partner_of g.es event ≡ o → after.state
          ≡ if_clash o (λ i. refused_by (tracking lengths g.es) (answer.Clash n i)) next
      states o q =
          left_by_records.state_after
          ∙ ap (λ c. if_clash c (λ i. refused_by (tracking lengths g.es) (answer.Clash n i)) next) (found o q)

      abbrev stand : (o : Option ℕ) → List Record
      stand o = if_clash o (λ i. open_at g.es) (records_after its-part (open_at g.es))

      ranges-stand : (o : Option ℕ) → partner_of g.es event ≡ o → after.ranges ≡ placed range_words (stand o) ranges
      ranges-stand o q =
          left_by_records.ranges_after
          ∙ ap (λ c. placed range_words (if_clash c (λ i. open_at g.es) (records_after its-part (open_at g.es))) ranges)
          (found o q)

      marks-stand : (o : Option ℕ) → partner_of g.es event ≡ o → after.marks ≡ placed mark_words (stand o) marks
      marks-stand o q =
          left_by_records.marks_after
          ∙ ap (λ c. placed mark_words (if_clash c (λ i. open_at g.es) (records_after its-part (open_at g.es))) marks)
          (found o q)

      opens : records_after its-part (open_at g.es) ≡ open_at longer
      opens = records-next g.es event ∙ ap (λ m. open_records longer m m) (omega (arith, one_more g.es event))

      by_partner : (o : Option ℕ) → partner_of g.es event ≡ o
          → Carried lengths items (Ok event) ranges marks after.state after.ranges after.marks
      by_partner None q =
          let same : items ++ Ok event ∷ [] ≡ map Ok longer =
          ap (λ l. l ++ Ok event ∷ []) g.are ∙ sym (map-append Ok g.es (event ∷ [])) in
          let accepted = ap code_of (ap (answer_of lengths) (sym same) ∙ answered None q) in
          subst (λ l. Carried lengths l (Ok event) ranges marks after.state after.ranges after.marks) (sym g.are)
          (carried-passed lengths g.es event after.state ranges marks after.ranges after.marks
          left.ranges_long left.marks_long accepted
          (states None q ∙ tracking-next g.es event lengths)
          (ranges-stand None q ∙ ap (λ rs. placed range_words rs ranges) opens)
          (marks-stand None q ∙ ap (λ rs. placed mark_words rs marks) opens))
      by_partner (Some i) q =
          let same-ranges : ranges ≡ after.ranges = g.in_ranges_lem ∙ sym (ranges-stand (Some i) q) in
          let same-marks : marks ≡ after.marks = g.in_marks ∙ sym (marks-stand (Some i) q) in
          subst (λ r. Carried lengths items (Ok event) ranges marks after.state r after.marks) same-ranges
          (subst (λ m. Carried lengths items (Ok event) ranges marks after.state ranges m) same-marks
          (refused_with (Ok event) (answer.Clash n i) after.state g (answered (Some i) q) refl
          (states (Some i) q ∙ ap (λ t. refused_by t (answer.Clash n i)) (sym g.state))))

      carried-left : Carried lengths items (Ok event) ranges marks after.state after.ranges after.marks
      carried-left = by_partner (partner_of g.es event) refl

    -- ---- an item, whatever it is
    carried-event : (e : Event) → CarriedTo (Ok e) (event_leaves e s ranges marks)
    carried-event e = by_fault (fault_alone s.lengths s.events e) refl
      where
        by_fault : (o : Option Answer) → fault_alone s.lengths s.events e ≡ o
            → CarriedTo (Ok e) (or_fault o s ranges marks (left_by (part_of s.events s.made e) s ranges marks))
        by_fault None passes = carried-left e passes
        by_fault (Some fault) found = carried-fault e fault found

    carried_item : (item : Item) → CarriedTo item (item_leaves item s ranges marks)
    carried_item (Ok e) = carried-event e
    carried_item (Err undecoded) = carried-undecoded (Err undecoded) _ refl refl

  -- ---- so a step carries on what the judge left
  pub step_carries : (item : Item)
      → Carried lengths items item ranges marks (step_of item s ranges marks).state (step_of item s ranges marks).ranges
      (step_of item s ranges marks).marks
  unfolding step_of
  step_carries item = by_test (goes_on s (length ranges) (length marks)) refl
    where
      by_test : (t : Bool) → goes_on s (length ranges) (length marks) ≡ t
          → CarriedTo item (cond t (item_leaves item s ranges marks) (leaving (counted s) ranges marks))
      by_test true on = carried_item on item
      by_test false stops = carried-counted item (counted s) stops refl

-- ---- what a step promises
pub stepped : (s : State) (item : Item) (ranges marks : List ℕ) (s' : State) (ranges' marks' : List ℕ)
    → leaving s' ranges' marks' ≡ step_of item s ranges marks → Stepped s item ranges marks s' ranges' marks'
stepped s item ranges marks s' ranges' marks' e = record {
  exact = e;
  carried = λ lengths items left.
      subst (λ (a : After). Carried lengths items item ranges marks a.state a.ranges a.marks) (sym e)
      (step_carries left item);
}

-- ---- which step it is
module _ (s : State) (ranges marks : List ℕ) where
  pub step-counted : (item : Item) → goes_on s (length ranges) (length marks) ≡ false
      → step_of item s ranges marks ≡ leaving (counted s) ranges marks
  unfolding step_of
  step-counted item h = rw h

  module _ (on : goes_on s (length ranges) (length marks) ≡ true) where
    step_on : (item : Item) → step_of item s ranges marks ≡ item_leaves item s ranges marks
    unfolding step_of
    step_on item = rw on

    pub step-undecoded : (item : Item) → is_decoded item ≡ false
        → step_of item s ranges marks ≡ leaving (refused_by s (refusal_of s.events item)) ranges marks
    step-undecoded (Ok e) h = absurd (true≢false h)
    step-undecoded (Err undecoded) h = step_on (Err undecoded)

    -- .. with an event that has a fault of its own, or none
    by_fault : (e : Event) (o : Option Answer) → fault_alone s.lengths s.events e ≡ o
        → step_of (Ok e) s ranges marks ≡ or_fault o s ranges marks (left_by (part_of s.events s.made e) s ranges marks)
    by_fault e o h =
        step_on (Ok e) ∙ ap (λ o. or_fault o s ranges marks (left_by (part_of s.events s.made e) s ranges marks)) h

    pub step-fault : (e : Event) (fault : Answer) → fault_alone s.lengths s.events e ≡ Some fault
        → step_of (Ok e) s ranges marks ≡ leaving (refused_by s fault) ranges marks
    step-fault e fault = by_fault e (Some fault)

    pub step-passes : (e : Event) → fault_alone s.lengths s.events e ≡ None
        → step_of (Ok e) s ranges marks ≡ left_by (part_of s.events s.made e) s ranges marks
    step-passes e = by_fault e None
