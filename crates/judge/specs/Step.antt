-- What the functions of a state do with any state and any places, those that no judge leaves among them: one outcome each.
use Rattle.std.specs.Prelude.{ℕ, suc, ◌+◌, ◌*◌, max, ◌≡◌, Bool, cond, ◌&&◌, List, [], leb, ltb, length, Option, None, Some, is_none, Ok, Err}
use Rattle.std.specs.Option.{unwrap_or}
use Rattle.std.proofs.lemmas.List.Edits.{sets}
use Rattle.answer.specs.declared.Answer.{Answer}
use Rattle.answer.specs.declared.Answer.TheVariants as answer
use Rattle.answer.specs.Numbers.{numbers_of}
use Rattle.answer.specs.Table.{event_limit, fit}
use Rattle.answer.specs.Codes.{code_of}
use Rattle.event.specs.declared.Event.{Event}
use Rattle.decoder.specs.Item.{Item}
use Rattle.decoder.specs.Kinds.{refusal_of}
use Rattle.checks.specs.Faults.{fault_alone}
use Rattle.operations.specs.declared.Record.{Record}
use Rattle.operations.specs.Table.{range_words, mark_words, records, placed}
use Rattle.operations.specs.Clash.{first_clash}
use Rattle.operations.specs.Waiting.{kept}
use Rattle.parts.specs.declared.GroupsMade.{GroupsMade}
use Rattle.parts.specs.declared.Part.{Part}
use Rattle.parts.specs.declared.Part.TheVariants.{Access, Operation, Commit, Wait}
use Rattle.parts.specs.Parts.{part_of}
use Rattle.rules.specs.declared.Lengths.{Lengths}
use Rattle.rules.specs.Faults.{are_memory_lengths}
use Rattle.judge.specs.declared.State.{State}
use Rattle.judge.specs.AsLeft.{place_length, tracking, ended, AsLeft, Carried}

-- A refusal that a sheet can hold.
abbrev pub is_refusal : Answer → Bool
is_refusal a = leb 2 (code_of a) && fit (numbers_of a)

-- The state before the first event. Under a memory length over 65,536 it has refused already (4).
unfoldable pub opened : Lengths → State
opened lengths = cond (are_memory_lengths lengths) (tracking lengths []) (ended lengths 0 answer.WrongMemoryLength)

-- The numbers keep the bounds that they keep where nothing is refused.
unfoldable pub is_sound : State → Bool
is_sound s =
    leb s.unclosed s.peak
    && leb s.peak s.events
    && leb s.events event_limit
    && leb s.made.copies s.events
    && leb s.made.bulk s.events
    && are_memory_lengths s.lengths

-- The answer of a state that holds this for a refusal: acceptance where it holds none and its numbers are sound, the refusal
-- where it is one, and otherwise that its shape is wrong (2).
abbrev pub answer_by : Option Answer → State → Answer
answer_by None s = cond (is_sound s) (answer.Accepted s.events s.peak) answer.WrongShape
answer_by (Some refusal) s = cond (is_refusal refusal) refusal answer.WrongShape

-- The answer that a state tells.
unfoldable pub answer_in : State → Answer
answer_in s = answer_by s.refusal s

-- ---- A step.

-- A state and the two places when a step is done.
pub record After : Type 0 where
  pub state : State
  pub ranges : List ℕ
  pub marks : List ℕ

abbrev pub leaving : State → List ℕ → List ℕ → After
leaving s ranges marks = record { state = s; ranges = ranges; marks = marks }

-- The event is judged where nothing is refused, the numbers are sound, one event more is within the limit, and the places,
-- of so many words, are long enough.
unfoldable pub goes_on : State → ℕ → ℕ → Bool
goes_on s ranges marks =
    is_none s.refusal && is_sound s && ltb s.events event_limit && leb place_length ranges && leb place_length marks

-- Otherwise it is counted. Past the limit there are too many (3); a state that has refused nothing and is not sound, or whose
-- places are too short, has a wrong shape (2).
unfoldable pub counted : State → State
counted s =
    cond (ltb s.events event_limit)
    (ended s.lengths (s.events + 1) (unwrap_or s.refusal answer.WrongShape))
    (ended s.lengths (suc event_limit) answer.TooManyEvents)

-- After a refused event; after one that passes, with so many operations open and these groups made.
abbrev pub refused_by : State → Answer → State
refused_by s refusal = ended s.lengths (s.events + 1) refusal

abbrev pub passed_to : State → ℕ → GroupsMade → State
passed_to s unclosed made = record s {
  events = s.events + 1;
  peak = max s.peak unclosed;
  unclosed = unclosed;
  made = made;
}

-- The earlier event that an event without fault clashes with: a load, a store or an operation, with an open operation.
abbrev pub clash_in : Part → List Record → Option ℕ
clash_in (Access r) open_operations = first_clash r open_operations
clash_in (Operation r) open_operations = first_clash r open_operations
clash_in (Commit made) open_operations = None
clash_in (Wait made wait) open_operations = None

-- A clash is refused, and changes no word.
abbrev pub or_clash : Option ℕ → State → List ℕ → List ℕ → After → After
or_clash (Some i) s ranges marks passed = leaving (refused_by s (answer.Clash s.events i)) ranges marks
or_clash None s ranges marks passed = passed

-- Where it clashes with none: a load, a store and a commit change no word; an operation changes those of its own record alone;
-- a wait puts the kept records first and leaves the words past them.
abbrev pub passed_by : Part → State → List ℕ → List ℕ → After
passed_by (Access r) s ranges marks = leaving (passed_to s s.unclosed s.made) ranges marks
passed_by (Operation r) s ranges marks =
    leaving (passed_to s (s.unclosed + 1) s.made) (sets ranges (4 * s.unclosed) (range_words r))
    (sets marks (4 * s.unclosed) (mark_words r))
passed_by (Commit made) s ranges marks = leaving (passed_to s s.unclosed made) ranges marks
passed_by (Wait made wait) s ranges marks =
    leaving (passed_to s (length (kept wait (records s.unclosed ranges marks))) made)
    (placed range_words (kept wait (records s.unclosed ranges marks)) ranges)
    (placed mark_words (kept wait (records s.unclosed ranges marks)) marks)

-- An event without fault.
abbrev pub left_by : Part → State → List ℕ → List ℕ → After
left_by p s ranges marks =
    or_clash (clash_in p (records s.unclosed ranges marks)) s ranges marks (passed_by p s ranges marks)

-- A fault of the event's own (7 to 9) is refused, and changes no word.
abbrev pub or_fault : Option Answer → State → List ℕ → List ℕ → After → After
or_fault (Some fault) s ranges marks passed = leaving (refused_by s fault) ranges marks
or_fault None s ranges marks passed = passed

abbrev pub event_leaves : Event → State → List ℕ → List ℕ → After
event_leaves e s ranges marks =
    or_fault (fault_alone s.lengths s.events e) s ranges marks
    (left_by (part_of s.events s.made e) s ranges marks)

-- So is what does not decode (5 to 7).
abbrev pub item_leaves : Item → State → List ℕ → List ℕ → After
item_leaves (Ok e) s ranges marks = event_leaves e s ranges marks
item_leaves (Err undecoded) s ranges marks = leaving (refused_by s (refusal_of s.events (Err undecoded))) ranges marks

unfoldable pub step_of : Item → State → List ℕ → List ℕ → After
step_of item s ranges marks =
    cond (goes_on s (length ranges) (length marks)) (item_leaves item s ranges marks) (leaving (counted s) ranges marks)

-- What a step promises.
pub record Stepped (s : State) (item : Item) (ranges marks : List ℕ) (s' : State) (ranges' marks' : List ℕ) : Type 0 where
  -- Of any state and places, the one outcome.
  pub exact : leaving s' ranges' marks' ≡ step_of item s ranges marks
  -- As the judge left them, they are left after the longer list.
  pub carried : (lengths : Lengths) (items : List Item)
      → AsLeft lengths items s ranges marks → Carried lengths items item ranges marks s' ranges' marks'
