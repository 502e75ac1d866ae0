-- What a step does to the words of the two places, whatever the state and their words. Each statement is a type; proofs/Places.antt
-- proves it, as `words_past_stay : WordsPastStay`.
use Rattle.std.specs.Prelude.{ℕ, ◌*◌, ◌≡◌, Bool, true, false, is_some, List, map, length, drop, Ok}
use Rattle.std.proofs.lemmas.List.Edits.{sets}
use Rattle.answer.specs.Codes.{IsAccepted}
use Rattle.rules.specs.Answers.{answer_of_events}
use Rattle.event.specs.declared.Event.{Event}
use Rattle.decoder.specs.Item.{Item}
use Rattle.operations.specs.declared.Record.{Record}
use Rattle.operations.specs.declared.Wait as operations
use Rattle.operations.specs.Table.{range_words, mark_words, records, placed}
use Rattle.operations.specs.Waiting.{kept}
use Rattle.parts.specs.declared.GroupsMade.{GroupsMade}
use Rattle.parts.specs.declared.Part.TheVariants as part
use Rattle.parts.specs.Parts.{part_of}
use Rattle.rules.specs.Closing.{is_operation}
use Rattle.rules.specs.declared.Lengths.{Lengths}
use Rattle.rules.specs.Peak.{open_after}
use Rattle.rules.specs.Waited.{MayAdd}
use Rattle.judge.specs.declared.State.{State}
use Rattle.judge.specs.AsLeft.{place_length, open_records, AsLeft}
use Rattle.judge.specs.Step.{After, step_of}

-- No word of either place changes.
abbrev pub Unchanged : List ℕ → List ℕ → After → Type 0
Unchanged ranges marks after = (after.ranges ≡ ranges) × (after.marks ≡ marks)

-- A refusal stands when the step is done.
abbrev pub refuses : After → Bool
refuses after = is_some after.state.refusal

-- A refused event changes none, nor does one that comes after a refusal or is not judged ..
unfoldable pub RefusalsChangeNone : Type 0
RefusalsChangeNone =
    (item : Item) (s : State) (ranges marks : List ℕ) → refuses (step_of item s ranges marks) ≡ true
    → Unchanged ranges marks (step_of item s ranges marks)

-- .. a load, a store and a commit, which are no operations and no waits (kinds 18, 19 and 35: `MayAdd`), change none ..
unfoldable pub AccessesAndCommitsChangeNone : Type 0
AccessesAndCommitsChangeNone =
    (e : Event) (s : State) (ranges marks : List ℕ) → is_operation e ≡ false → ¬ MayAdd e
    → Unchanged ranges marks (step_of (Ok e) s ranges marks)

-- .. an operation changes the words of its own record alone, behind those of the open operations ..
unfoldable pub OperationsChangeTheirRecord : Type 0
OperationsChangeTheirRecord =
    (e : Event) (s : State) (ranges marks : List ℕ) → is_operation e ≡ true → refuses (step_of (Ok e) s ranges marks) ≡ false
    → (r : Record) × (part_of s.events s.made e ≡ part.Operation r)
    × ((step_of (Ok e) s ranges marks).ranges ≡ sets ranges (4 * s.unclosed) (range_words r))
    × ((step_of (Ok e) s ranges marks).marks ≡ sets marks (4 * s.unclosed) (mark_words r))

-- .. a wait puts the kept records first, in order, and leaves the words past them ..
unfoldable pub WaitsKeepRecords : Type 0
WaitsKeepRecords =
    (e : Event) (s : State) (ranges marks : List ℕ) → MayAdd e → refuses (step_of (Ok e) s ranges marks) ≡ false
    → (made : GroupsMade) × (wait : operations.Wait) × (part_of s.events s.made e ≡ part.Wait made wait)
    × ((step_of (Ok e) s ranges marks).ranges ≡ placed range_words (kept wait (records s.unclosed ranges marks)) ranges)
    × ((step_of (Ok e) s ranges marks).marks ≡ placed mark_words (kept wait (records s.unclosed ranges marks)) marks)

-- .. and the words past the stated length stay.
unfoldable pub WordsPastStay : Type 0
WordsPastStay =
    (item : Item) (s : State) (ranges marks : List ℕ)
    → (drop place_length (step_of item s ranges marks).ranges ≡ drop place_length ranges)
    × (drop place_length (step_of item s ranges marks).marks ≡ drop place_length marks)

-- As the judge left them while nothing is refused: one record for each open operation, in event order.
unfoldable pub OneRecordEach : Type 0
OneRecordEach =
    (lengths : Lengths) (es : List Event) (s : State) (ranges marks : List ℕ)
    → AsLeft lengths (map Ok es) s ranges marks → IsAccepted (answer_of_events lengths es)
    → (s.unclosed ≡ open_after es (length es)) × (records s.unclosed ranges marks ≡ open_records es (length es) (length es))
