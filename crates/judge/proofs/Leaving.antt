-- What the judge leaves: the opening state is so, each step carries it on, and its answer is that of the list.
-- Assumes nothing.
use Prim.Native.Nat.{ℕ, zero, suc, ◌*◌, ◌≤◌, ◌<◌, min}
use native.Mathlib.Omega.{arith}
use mathlib.Core.Path.{◌≡◌, refl, sym, ap, ap₂, subst, ◌∙◌}
use mathlib.Core.Bool.{Bool, true, false, true≢false}
use mathlib.Core.List.{List, [], ◌∷◌, ◌++◌, map, map-append}
use lib.ListN.{length}
use borrow.Author.Tests.{le-leb, lt-ltb, eqb-true, eq-eqb}
use Rattle.answer.specs.declared.Answer.{Answer}
use Rattle.answer.specs.Table.{event_limit}
use Rattle.answer.specs.Codes.{code_of, IsAccepted, is_accepted}
use Rattle.event.specs.declared.Event.{Event}
use Rattle.decoder.specs.Item.{Item}
use Rattle.std.specs.Prelude.{Ok}
use Rattle.operations.specs.declared.Record.{Record}
use Rattle.operations.specs.Table.{range_words, mark_words, placed}
use Rattle.operations.proofs.Records.{length-placed, again, four-ranges, four-marks}
use Rattle.rules.specs.Closing.{Chain, NonBulk, Bulk, Role, operation, commit, wait_all, other, wait, groups, is_open, role}
use Rattle.rules.specs.Events.{event_at}
use Rattle.rules.specs.declared.Lengths.{Lengths}
use Rattle.rules.specs.Peak.{open_after, peak}
use Rattle.rules.specs.Answers.{answer_of, answer_of_events}
use Rattle.rules.proofs.Counting.{makes, commits}
use Rattle.rules.proofs.Search.{count_most}
use Rattle.rules.proofs.Peak.{peak_most, peak_largest}
use Rattle.rules.proofs.Next.{made-commits}
use Rattle.rules.proofs.Accepted.{accepted-items, accepted_well_formed}
use Rattle.judge.specs.declared.State.{State}
use Rattle.judge.specs.AsLeft.{place_length, open_records, tracking, ended, events_of, state_of, open_of, AsLeft, Carried}
use Rattle.judge.specs.Step.{is_sound, goes_on}
use Rattle.judge.proofs.Opens.{length_open}

-- ---- lists of events
events-again : (es : List Event) → events_of (map Ok es) ≡ es
events-again [] = refl
events-again (e ∷ es) = ap (λ l. e ∷ l) (events-again es)

not-accepted : (a : Answer) → is_accepted a ≡ false → ¬ IsAccepted a
not-accepted a h e = true≢false (sym (eq-eqb (code_of a) 1 e) ∙ h)

-- ---- the state and the records of a list that is accepted, and of one that is not
module _ (lengths : Lengths) (items : List Item) where
  state-accepted : is_accepted (answer_of lengths items) ≡ true → state_of lengths items ≡ tracking lengths (events_of items)
  unfolding state_of
  state-accepted h = rw h

  state-refused : is_accepted (answer_of lengths items) ≡ false
      → state_of lengths items ≡ ended lengths (min (length items) (suc event_limit)) (answer_of lengths items)
  unfolding state_of
  state-refused h = rw h

  open_accepted : is_accepted (answer_of lengths items) ≡ true
      → open_of lengths items ≡ open_records (events_of items) (length (events_of items)) (length (events_of items))
  unfolding open_of
  open_accepted h = rw h

  open_refused : is_accepted (answer_of lengths items) ≡ false → open_of lengths items ≡ []
  unfolding open_of
  open_refused h = rw h

-- the records of the operations that are open after these events
abbrev pub open_at : List Event → List Record
open_at es = open_records es (length es) (length es)

-- ---- the two ways to be left
pub data How (lengths : Lengths) (items : List Item) (s : State) (ranges marks : List ℕ) : Type 0 where
  passing : (es : List Event) → items ≡ map Ok es → IsAccepted (answer_of_events lengths es) → s ≡ tracking lengths es
      → ranges ≡ placed range_words (open_at es) ranges → marks ≡ placed mark_words (open_at es) marks
      → How lengths items s ranges marks
  over : ¬ IsAccepted (answer_of lengths items)
      → s ≡ ended lengths (min (length items) (suc event_limit)) (answer_of lengths items) → How lengths items s ranges marks

pub how : {lengths : Lengths} {items : List Item} {s : State} {ranges marks : List ℕ} → AsLeft lengths items s ranges marks
    → How lengths items s ranges marks
how {lengths} {items} {s} {ranges} {marks} left = by_test (is_accepted (answer_of lengths items)) refl
  where
    by_test : (t : Bool) → is_accepted (answer_of lengths items) ≡ t → How lengths items s ranges marks
    by_test true e =
        let h = eqb-true (code_of (answer_of lengths items)) 1 e in
        let v = accepted-items lengths items h in
        let same : events_of items ≡ v.events = ap events_of v.are ∙ events-again v.events in
        let records : open_of lengths items ≡ open_at v.events = open_accepted lengths items e ∙ ap open_at same in
        passing v.events v.are (rw v.are at h)
        (left.state_is ∙ state-accepted lengths items e ∙ ap (tracking lengths) same)
        (left.ranges_hold ∙ ap (λ rs. placed range_words rs ranges) records)
        (left.marks_hold ∙ ap (λ rs. placed mark_words rs marks) records)
    by_test false e =
        over (not-accepted (answer_of lengths items) e) (left.state_is ∙ state-refused lengths items e)

-- ---- and to be carried on
module _ (lengths : Lengths) (items : List Item) (item : Item) (ranges marks : List ℕ)
    (long-ranges : place_length ≤ length ranges) (long-marks : place_length ≤ length marks) where
  abbrev more : List Item
  more = items ++ item ∷ []

  none-placed : (words : Record → List ℕ) (place : List ℕ) → is_accepted (answer_of lengths more) ≡ false
      → place ≡ placed words (open_of lengths more) place
  unfolding placed
  none-placed words place test = sym (ap (λ rs. placed words rs place) (open_refused lengths more test))

  pub carried-refused : (a : Answer) (n : ℕ) (s' : State) → answer_of lengths more ≡ a → is_accepted a ≡ false
      → n ≡ min (length more) (suc event_limit) → s' ≡ ended lengths n a
      → Carried lengths items item ranges marks s' ranges marks
  carried-refused a n s' q refusal count e =
      let test : is_accepted (answer_of lengths more) ≡ false = ap is_accepted q ∙ refusal in
      let in_ranges_lem = none-placed range_words ranges test in
      let in_marks = none-placed mark_words marks test in
      record {
        left = record {
          ranges_long = long-ranges;
          marks_long = long-marks;
          state_is = e ∙ ap₂ (ended lengths) count (sym q) ∙ sym (state-refused lengths more test);
          ranges_hold = in_ranges_lem;
          marks_hold = in_marks;
        };
        ranges_after = in_ranges_lem;
        marks_after = in_marks;
      }

few-records : (es : List Event) → length es ≤ event_limit → 4 * length (open_at es) ≤ place_length
few-records es few =
    omega (arith, length_open es (length es) (length es), count_most (is_open es (length es)) (length es))

-- either place, when records are put first
placed-again : (words : Record → List ℕ) → ((r : Record) → length (words r) ≡ 4) → (rs : List Record) (place place' : List ℕ)
    → place' ≡ placed words rs place → place' ≡ placed words rs place'
placed-again words four rs place place' e = e ∙ sym (ap (placed words rs) e ∙ again words four rs place)

still-long : (words : Record → List ℕ) → ((r : Record) → length (words r) ≡ 4) → (es : List Event) (place place' : List ℕ)
    → length es ≤ event_limit → place_length ≤ length place → place' ≡ placed words (open_at es) place
    → place_length ≤ length place'
still-long words four es place place' few long e =
    omega (arith, ap length e, length-placed words four (open_at es) place (omega (arith, few-records es few)))

-- after events that are accepted
module _ (lengths : Lengths) (es : List Event) (h : IsAccepted (answer_of_events lengths es)) where
  test : is_accepted (answer_of_events lengths es) ≡ true
  test = eq-eqb (code_of (answer_of_events lengths es)) 1 h

  pub open_is : open_of lengths (map Ok es) ≡ open_at es
  open_is = open_accepted lengths (map Ok es) test ∙ ap open_at (events-again es)

  pub state_tracks : state_of lengths (map Ok es) ≡ tracking lengths es
  state_tracks = state-accepted lengths (map Ok es) test ∙ ap (tracking lengths) (events-again es)

  few : length es ≤ event_limit
  few = (accepted_well_formed lengths es h).limits.events

  -- they are left so, where these records are put first
  left-tracking : (s : State) (ranges marks ranges' marks' : List ℕ)
      → place_length ≤ length ranges → place_length ≤ length marks → s ≡ tracking lengths es
      → ranges' ≡ placed range_words (open_at es) ranges → marks' ≡ placed mark_words (open_at es) marks
      → AsLeft lengths (map Ok es) s ranges' marks'
  left-tracking s ranges marks ranges' marks' long-ranges long-marks state in_ranges_lem in_marks = record {
    ranges_long = still-long range_words four-ranges es ranges ranges' few long-ranges in_ranges_lem;
    marks_long = still-long mark_words four-marks es marks marks' few long-marks in_marks;
    state_is = state ∙ sym state_tracks;
    ranges_hold =
        placed-again range_words four-ranges (open_at es) ranges ranges' in_ranges_lem
        ∙ sym (ap (λ rs. placed range_words rs ranges') open_is);
    marks_hold =
        placed-again mark_words four-marks (open_at es) marks marks' in_marks
        ∙ sym (ap (λ rs. placed mark_words rs marks') open_is);
  }

pub carried-passed : (lengths : Lengths) (es : List Event) (e : Event) (s' : State) (ranges marks ranges' marks' : List ℕ)
    → place_length ≤ length ranges → place_length ≤ length marks
    → IsAccepted (answer_of_events lengths (es ++ e ∷ [])) → s' ≡ tracking lengths (es ++ e ∷ [])
    → ranges' ≡ placed range_words (open_at (es ++ e ∷ [])) ranges → marks' ≡ placed mark_words (open_at (es ++ e ∷ [])) marks
    → Carried lengths (map Ok es) (Ok e) ranges marks s' ranges' marks'
carried-passed lengths es e s' ranges marks ranges' marks' long-ranges long-marks h state in_ranges_lem in_marks =
    let longer = es ++ e ∷ [] in
    let items : map Ok longer ≡ map Ok es ++ Ok e ∷ [] = map-append Ok es (e ∷ []) in
    let opens : open_of lengths (map Ok es ++ Ok e ∷ []) ≡ open_at longer =
    ap (open_of lengths) (sym items) ∙ open_is lengths longer h in
    record {
      left =
          subst (λ l. AsLeft lengths l s' ranges' marks') items
          (left-tracking lengths longer h s' ranges marks ranges' marks' long-ranges long-marks state in_ranges_lem in_marks);
      ranges_after = in_ranges_lem ∙ sym (ap (λ rs. placed range_words rs ranges) opens);
      marks_after = in_marks ∙ sym (ap (λ rs. placed mark_words rs marks) opens);
    }

-- ---- a judge that has refused nothing is sound, and goes on up to the limit
makes_one : (r : Role) → makes r ≤ 1
makes_one operation = omega arith
makes_one commit = omega arith
makes_one wait_all = omega arith
makes_one other = omega arith
makes_one (wait n) = omega arith

commits_most : (chain : Chain) (es : List Event) (w : ℕ) → commits chain es w ≤ w
unfolding commits
commits_most chain es zero = omega arith
commits_most chain es (suc w) = omega (arith, commits_most chain es w, makes_one (role chain (event_at es w)))

made_most : (chain : Chain) (es : List Event) (w : ℕ) → length (groups chain es w).made ≤ w
made_most chain es w = omega (arith, made-commits chain es w, commits_most chain es w)

open_most : (es : List Event) (n : ℕ) → open_after es n ≤ peak es n
open_most es zero = omega arith
open_most es (suc n) = peak_largest es (suc n) n (omega arith)

module _ (lengths : Lengths) (es : List Event) (h : IsAccepted (answer_of_events lengths es)) where
  pub sound_tracking : is_sound (tracking lengths es) ≡ true
  unfolding is_sound
  sound_tracking =
      let limits = (accepted_well_formed lengths es h).limits in
      let n = length es in
      rw (
        le-leb (open_after es n) (peak es n) (open_most es n),
        le-leb (peak es n) n (peak_most es n),
        le-leb n event_limit limits.events,
        le-leb (length (groups NonBulk es n).made) n (made_most NonBulk es n),
        le-leb (length (groups Bulk es n).made) n (made_most Bulk es n),
        limits.memories,
      )

  pub goes_on_if : (ranges marks : ℕ) → place_length ≤ ranges → place_length ≤ marks → length es < event_limit
      → goes_on (tracking lengths es) ranges marks ≡ true
  unfolding goes_on
  goes_on_if ranges marks long-ranges long-marks few =
      rw (
        sound_tracking,
        lt-ltb (length es) event_limit few,
        le-leb place_length ranges long-ranges,
        le-leb place_length marks long-marks,
      )
