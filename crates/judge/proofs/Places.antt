-- What a step changes in the places: the statements of specs/Places.antt.
-- Assumes nothing.
use Prim.Native.Nat.{suc, ◌+◌, ◌*◌, ◌-◌, ◌≤◌}
use native.Mathlib.Omega.{arith}
use mathlib.Core.Path.{◌≡◌, refl, sym, ap, ◌∙◌}
use mathlib.Core.Bool.{Bool, true, false, cond, true≢false, false≢true}
use mathlib.Core.List.{List, [], ◌∷◌, map}
use lib.ListN.{length, drop, set}
use Rattle.std.specs.Prelude.{ℕ, Option, None, Some, is_some, IsSome}
use Rattle.std.specs.List.{flat_map}
use Rattle.std.proofs.lemmas.List.Sums.{length-filter, count_by-le-length}
use lib.Seq.{sets, drop-drop, drop-append-add, drop-set-lt}
use Rattle.rules.specs.Answers.{answer_of_events}
use Rattle.answer.specs.declared.Answer.{Answer}
use Rattle.answer.specs.Codes.{IsAccepted}
use Rattle.event.specs.declared.Address.TheVariants.{Global, Shared}
use Rattle.event.specs.declared.Event.{Event}
use Rattle.event.specs.declared.Event.TheVariants.{Load, Store, Copy, Commit, Wait, WaitAll, BulkCopy, BulkReduction, BulkCommit, BulkWait}
use Rattle.decoder.specs.Item.{Item}
use Rattle.std.specs.Prelude.{Ok, Err}
use Rattle.checks.specs.Faults.{fault_alone}
use Rattle.operations.specs.declared.Record.{Record}
use Rattle.operations.specs.declared.Wait as operations
use Rattle.operations.specs.Table.{range_words, mark_words, records, placed}
use Rattle.operations.proofs.Records.{length-all, four-ranges, four-marks, length-records}
use Rattle.operations.specs.Waiting.{stays_open, kept}
use Rattle.parts.specs.declared.GroupsMade.{GroupsMade}
use Rattle.parts.specs.declared.Part.{Part}
use Rattle.parts.specs.declared.Part.TheVariants as part
use Rattle.parts.specs.Parts.{part_of}
use Rattle.rules.specs.Closing.{is_operation}
use Rattle.rules.specs.declared.Lengths.{Lengths}
use Rattle.rules.specs.Peak.{open_after}
use Rattle.rules.specs.Waited.{MayAdd}
use Rattle.rules.specs.Waited as waited
use Rattle.judge.specs.declared.State.{State}
use Rattle.judge.specs.AsLeft.{place_length, AsLeft}
use Rattle.judge.specs.Step.{goes_on, After, leaving, refused_by, counted, clash_in, or_clash, passed_by, left_by, or_fault, item_leaves, step_of}
use Rattle.judge.specs.Places.{Unchanged, refuses, RefusalsChangeNone, AccessesAndCommitsChangeNone, OperationsChangeTheirRecord, WaitsKeepRecords, WordsPastStay, OneRecordEach}
use Rattle.judge.proofs.Sound.{going, counted-refusal}
use Rattle.judge.proofs.Opens.{starts, length_open}
use Rattle.judge.proofs.Acting.{Holds, held-records}
use Rattle.judge.proofs.Leaving.{open_at, open_is, state_tracks}

-- the event of an item that has one
abbrev event_in : Item → Event
event_in (Ok e) = e
event_in (Err undecoded) = Commit

-- what is past the first n words stays, where records are put before, or words set
past-stays : (words : Record → List ℕ) → ((r : Record) → length (words r) ≡ 4) → (rs : List Record) (place : List ℕ) (n : ℕ)
    → 4 * length rs ≤ n → drop n (placed words rs place) ≡ drop n place
unfolding placed
past-stays words four rs place n room =
    let all = length-all words four rs in
    let over : length (flat_map words rs) + (n - 4 * length rs) ≡ n = omega (arith, all) in
    let there : 4 * length rs + (n - 4 * length rs) ≡ n = omega arith in
    ap (λ k. drop k (placed words rs place)) (sym over)
    ∙ drop-append-add (flat_map words rs) (drop (4 * length rs) place) (n - 4 * length rs)
    ∙ drop-drop (n - 4 * length rs) (4 * length rs) place ∙ ap (λ k. drop k place) there

past-sets : (vs place : List ℕ) (i n : ℕ) → i + length vs ≤ n → drop n (sets place i vs) ≡ drop n place
past-sets [] place i n h = refl
past-sets (v ∷ vs) place i n h = past-sets vs (set place i v) (suc i) n (omega arith) ∙ drop-set-lt n place i v (omega arith)

module _ (s : State) (ranges marks : List ℕ) where
  -- what an event leaves that clashes with nothing
  abbrev passing : Part → After
  passing p = passed_by p s ranges marks

  -- ---- a step refuses and changes no word, or its event passes
  data Either (item : Item) : After → Type 0 where
    refusing : (s' : State) → IsSome s'.refusal → Either item (leaving s' ranges marks)
    passes : goes_on s (length ranges) (length marks) ≡ true → Either item (passing (part_of s.events s.made (event_in item)))

  module _ (e : Event) (on : goes_on s (length ranges) (length marks) ≡ true) where
    by_partner : (q : Option ℕ) (after : After) → Either (Ok e) after → Either (Ok e) (or_clash q s ranges marks after)
    by_partner (Some i) after w = refusing _ refl
    by_partner None after w = w

    by_part : (p : Part) → Either (Ok e) (passing p) → Either (Ok e) (left_by p s ranges marks)
    by_part p = by_partner (clash_in p (records s.unclosed ranges marks)) (passing p)

    by_fault : (o : Option Answer)
        → Either (Ok e) (or_fault o s ranges marks (left_by (part_of s.events s.made e) s ranges marks))
    by_fault None = by_part (part_of s.events s.made e) (passes on)
    by_fault (Some fault) = refusing (refused_by s fault) refl

  by_item : (item : Item) → goes_on s (length ranges) (length marks) ≡ true → Either item (item_leaves item s ranges marks)
  by_item (Ok e) on = by_fault e on (fault_alone s.lengths s.events e)
  by_item (Err undecoded) on = refusing _ refl

  either : (item : Item) → Either item (step_of item s ranges marks)
  unfolding step_of
  either item = by_test (goes_on s (length ranges) (length marks)) refl
    where
      by_test : (t : Bool) → goes_on s (length ranges) (length marks) ≡ t
          → Either item (cond t (item_leaves item s ranges marks) (leaving (counted s) ranges marks))
      by_test true on = by_item item on
      by_test false stops = refusing (counted s) (counted-refusal s)

  -- an event that passes leaves the state without a refusal
  still-none : (p : Part) → goes_on s (length ranges) (length marks) ≡ true → refuses (passing p) ≡ false
  still-none p on = by_part_refusal p ∙ ap is_some (going s (length ranges) (length marks) on).none_refused
    where
      by_part_refusal : (q : Part) → refuses (passing q) ≡ is_some s.refusal
      by_part_refusal (part.Access r) = refl
      by_part_refusal (part.Operation r) = refl
      by_part_refusal (part.Commit made) = refl
      by_part_refusal (part.Wait made wait) = refl

  refusal_unchanged : (item : Item) → refuses (step_of item s ranges marks) ≡ true
      → Unchanged ranges marks (step_of item s ranges marks)
  refusal_unchanged item h = by_way (either item) h
    where
      by_way : {after : After} → Either item after → refuses after ≡ true → Unchanged ranges marks after
      by_way (refusing s' r) k = (refl, refl)
      by_way (passes on) k =
          absurd (false≢true (sym (still-none (part_of s.events s.made (event_in item)) on) ∙ k))

  -- ---- what is no operation and no wait is an access or a commit
  part_unchanged : (e : Event) → is_operation e ≡ false → ¬ MayAdd e
      → Unchanged ranges marks (passing (part_of s.events s.made e))
  part_unchanged (Load (Global at) size) h k = (refl, refl)
  part_unchanged (Load (Shared at) size) h k = (refl, refl)
  part_unchanged (Store (Global at) size low high) h k = (refl, refl)
  part_unchanged (Store (Shared at) size low high) h k = (refl, refl)
  part_unchanged (Copy dst src cp_size mode cache) h k = absurd (true≢false h)
  part_unchanged Commit h k = (refl, refl)
  part_unchanged (Wait n) h k = absurd (k waited.wait)
  part_unchanged WaitAll h k = absurd (k waited.wait_all)
  part_unchanged (BulkCopy dst src size) h k = absurd (true≢false h)
  part_unchanged (BulkReduction dst src size operation element) h k = absurd (true≢false h)
  part_unchanged BulkCommit h k = (refl, refl)
  part_unchanged (BulkWait n) h k = absurd (k waited.bulk_wait)

  none-changed : (e : Event) → is_operation e ≡ false → ¬ MayAdd e → Unchanged ranges marks (step_of (Ok e) s ranges marks)
  none-changed e h k = by_way (either (Ok e))
    where
      by_way : {after : After} → Either (Ok e) after → Unchanged ranges marks after
      by_way (refusing s' r) = (refl, refl)
      by_way (passes on) = part_unchanged e h k

  -- ---- an operation and a wait, where no refusal stands
  abbrev PutsRecord : Event → After → Type 0
  PutsRecord e after =
      (r : Record) × (part_of s.events s.made e ≡ part.Operation r)
      × (after.ranges ≡ sets ranges (4 * s.unclosed) (range_words r)) × (after.marks ≡ sets marks (4 * s.unclosed) (mark_words r))

  record_put : (e : Event) → is_operation e ≡ true → refuses (step_of (Ok e) s ranges marks) ≡ false
      → PutsRecord e (step_of (Ok e) s ranges marks)
  record_put e h = by_way (either (Ok e))
    where
      by_way : {after : After} → Either (Ok e) after → refuses after ≡ false → PutsRecord e after
      by_way (refusing s' r) k = absurd (true≢false (sym r ∙ k))
      by_way (passes on) k =
          let start = starts s.events s.made e h in
          (start.its, start.part_is, ap (λ p. (passing p).ranges) start.part_is, ap (λ p. (passing p).marks) start.part_is)

  abbrev KeepsRecords : Event → After → Type 0
  KeepsRecords e after =
      (made : GroupsMade) × (wait : operations.Wait) × (part_of s.events s.made e ≡ part.Wait made wait)
      × (after.ranges ≡ placed range_words (kept wait (records s.unclosed ranges marks)) ranges)
      × (after.marks ≡ placed mark_words (kept wait (records s.unclosed ranges marks)) marks)

  wait-keeps : {e : Event} → MayAdd e → KeepsRecords e (passing (part_of s.events s.made e))
  wait-keeps waited.wait = (_, _, refl, refl, refl)
  wait-keeps waited.wait_all = (_, _, refl, refl, refl)
  wait-keeps waited.bulk_wait = (_, _, refl, refl, refl)

  records-kept : (e : Event) → MayAdd e → refuses (step_of (Ok e) s ranges marks) ≡ false
      → KeepsRecords e (step_of (Ok e) s ranges marks)
  records-kept e h = by_way (either (Ok e))
    where
      by_way : {after : After} → Either (Ok e) after → refuses after ≡ false → KeepsRecords e after
      by_way (refusing s' r) k = absurd (true≢false (sym r ∙ k))
      by_way (passes on) k = wait-keeps h

  -- ---- the words past the stated length
  abbrev PastStays : After → Type 0
  PastStays after =
      (drop place_length after.ranges ≡ drop place_length ranges) × (drop place_length after.marks ≡ drop place_length marks)

  part-past : (p : Part) → goes_on s (length ranges) (length marks) ≡ true → PastStays (passing p)
  part-past (part.Access r) on = (refl, refl)
  part-past (part.Operation r) on =
      let known = going s (length ranges) (length marks) on in (
        past-sets (range_words r) ranges (4 * s.unclosed) place_length (omega arith),
        past-sets (mark_words r) marks (4 * s.unclosed) place_length (omega arith),
      )
  part-past (part.Commit made) on = (refl, refl)
  part-past (part.Wait made wait) on =
      let known = going s (length ranges) (length marks) on in
      let rs = kept wait (records s.unclosed ranges marks) in
      let few : 4 * length rs ≤ place_length =
      omega (arith, length-filter (stays_open wait) (records s.unclosed ranges marks), count_by-le-length (stays_open wait) (records s.unclosed ranges marks), length-records s.unclosed ranges marks) in
      (past-stays range_words four-ranges rs ranges place_length few, past-stays mark_words four-marks rs marks place_length few)

  past_unchanged : (item : Item) → PastStays (step_of item s ranges marks)
  past_unchanged item = by_way (either item)
    where
      by_way : {after : After} → Either item after → PastStays after
      by_way (refusing s' r) = (refl, refl)
      by_way (passes on) = part-past (part_of s.events s.made (event_in item)) on

-- ---- one record for each open operation
one_each : (lengths : Lengths) (es : List Event) (s : State) (ranges marks : List ℕ)
    → AsLeft lengths (map Ok es) s ranges marks → IsAccepted (answer_of_events lengths es)
    → (s.unclosed ≡ open_after es (length es)) × (records s.unclosed ranges marks ≡ open_at es)
one_each lengths es s ranges marks left h =
    let count = ap (λ (t : State). t.unclosed) (left.state_is ∙ state_tracks lengths es h) in
    let opens = open_is lengths es h in
    let holds : Holds (open_at es) s ranges marks = record {
      all = count ∙ sym (length_open es (length es) (length es));
      in_ranges_lem = left.ranges_hold ∙ ap (λ rs. placed range_words rs ranges) opens;
      in_marks = left.marks_hold ∙ ap (λ rs. placed mark_words rs marks) opens;
    } in
    (count, held-records holds)

-- ---- the statements
pub refusals_change_none : RefusalsChangeNone
unfolding RefusalsChangeNone
refusals_change_none item s ranges marks = refusal_unchanged s ranges marks item

pub accesses_and_commits_change_none : AccessesAndCommitsChangeNone
unfolding AccessesAndCommitsChangeNone
accesses_and_commits_change_none e s ranges marks = none-changed s ranges marks e

pub operations_change_their_record : OperationsChangeTheirRecord
unfolding OperationsChangeTheirRecord
operations_change_their_record e s ranges marks = record_put s ranges marks e

pub waits_keep_records : WaitsKeepRecords
unfolding WaitsKeepRecords
waits_keep_records e s ranges marks = records-kept s ranges marks e

pub one_record_each : OneRecordEach
unfolding OneRecordEach
one_record_each = one_each

pub words_past_stay : WordsPastStay
unfolding WordsPastStay
words_past_stay item s ranges marks = past_unchanged s ranges marks item
