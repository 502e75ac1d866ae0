-- A state and two places as the judge leaves them after a list of items: every number of the state, and the words that stand
-- first in the places. That this is right need not be believed: the opening state and places of any contents are so for the
-- empty list, a step carries it on, and the answer of such a state is that of the rules; by theorem `StepsAnswer` it drops out.
use Rattle.std.specs.Prelude.{ℕ, zero, suc, ◌*◌, ◌≤◌, min, ◌≡◌, cond, List, [], ◌∷◌, ◌++◌, length, None, Some, Ok, Err}
use Rattle.answer.specs.declared.Answer.{Answer}
use Rattle.answer.specs.Table.{event_limit}
use Rattle.answer.specs.Codes.{is_accepted}
use Rattle.event.specs.declared.Event.{Event}
use Rattle.decoder.specs.Item.{Item}
use Rattle.operations.specs.declared.Record.{Record}
use Rattle.operations.specs.Table.{range_words, mark_words, placed}
use Rattle.parts.specs.declared.GroupsMade.{GroupsMade}
use Rattle.parts.specs.declared.Part.{Part}
use Rattle.parts.specs.declared.Part.TheVariants.{Access, Operation, Commit, Wait}
use Rattle.parts.specs.Parts.{part_of}
use Rattle.rules.specs.Events.{event_at}
use Rattle.rules.specs.declared.Lengths.{Lengths}
use Rattle.rules.specs.Closing.{NonBulk, Bulk, groups, is_open}
use Rattle.rules.specs.Peak.{open_after, peak}
use Rattle.rules.specs.Answers.{answer_of}
use Rattle.judge.specs.declared.State.{State}

-- The words of each lent place: four for each operation that can be open.
abbrev pub place_length : ℕ
place_length = 4 * event_limit

-- How many groups each chain has made in the first n events.
abbrev pub made_by : List Event → ℕ → GroupsMade
made_by es n = record { copies = length (groups NonBulk es n).made; bulk = length (groups Bulk es n).made }

-- The record of an operation that starts.
abbrev pub record_in : Part → List Record
record_in (Access r) = []
record_in (Operation r) = r ∷ []
record_in (Commit made) = []
record_in (Wait made wait) = []

abbrev pub record_of : List Event → ℕ → List Record
record_of es i = record_in (part_of i (made_by es i) (event_at es i))

-- Of the first k events, the records of those whose operations are open after n events, in event order.
unfoldable pub open_records : List Event → ℕ → ℕ → List Record
open_records es n zero = []
open_records es n (suc k) = open_records es n k ++ cond (is_open es n k) (record_of es k) []

-- After events that are accepted.
abbrev pub tracking : Lengths → List Event → State
tracking lengths es = record {
  events = length es;
  peak = peak es (length es);
  unclosed = open_after es (length es);
  made = made_by es (length es);
  lengths = lengths;
  refusal = None;
}

-- After a refusal, of so many events: they are counted, and nothing is kept of them. More is open than peak, as it never is while
-- nothing is refused: so a state whose refusal got lost is not taken for one that has refused nothing.
abbrev pub ended : Lengths → ℕ → Answer → State
ended lengths events refusal = record {
  events = events;
  peak = 0;
  unclosed = 1;
  made = record { copies = 0; bulk = 0 };
  lengths = lengths;
  refusal = Some refusal;
}

abbrev pub events_of : List Item → List Event
events_of [] = []
events_of (Ok e ∷ items) = e ∷ events_of items
events_of (Err undecoded ∷ items) = events_of items

-- The state after a list. Past the limit it counts no further.
unfoldable pub state_of : Lengths → List Item → State
state_of lengths items =
    cond (is_accepted (answer_of lengths items))
    (tracking lengths (events_of items))
    (ended lengths (min (length items) (suc event_limit)) (answer_of lengths items))

-- The records that stand first in the places.
unfoldable pub open_of : Lengths → List Item → List Record
open_of lengths items =
    cond (is_accepted (answer_of lengths items))
    (open_records (events_of items) (length (events_of items)) (length (events_of items)))
    []

pub record AsLeft (lengths : Lengths) (items : List Item) (state : State) (ranges marks : List ℕ) : Type 0 where
  pub ranges_long : place_length ≤ length ranges
  pub marks_long : place_length ≤ length marks
  pub state_is : state ≡ state_of lengths items
  pub ranges_hold : ranges ≡ placed range_words (open_of lengths items) ranges
  pub marks_hold : marks ≡ placed mark_words (open_of lengths items) marks

-- One item more: so they are left again, and of the words of the places those past the records that now stand first are as
-- they were.
pub record Carried (lengths : Lengths) (items : List Item) (item : Item) (ranges marks : List ℕ)
    (state' : State) (ranges' marks' : List ℕ) : Type 0 where
  pub left : AsLeft lengths (items ++ item ∷ []) state' ranges' marks'
  pub ranges_after : ranges' ≡ placed range_words (open_of lengths (items ++ item ∷ [])) ranges
  pub marks_after : marks' ≡ placed mark_words (open_of lengths (items ++ item ∷ [])) marks
