-- What holds of the rules: conditions 2 and 3. Each statement is a type; proofs/Theorems.antt proves it, as
-- `same_bytes : SameBytes`.
use Rattle.std.specs.Prelude.{ℕ, suc, ◌≤◌, ◌<◌, ◌≡◌, ◌↔◌, ◌⊎◌, true, false, List, ◌∷◌, ◌++◌, map, length, take, Some, Ok}
use Rattle.little_endian.specs.Number.{within}
use Rattle.answer.specs.declared.Answer.{Answer}
use Rattle.answer.specs.declared.Answer.TheVariants as answer
use Rattle.answer.specs.Table.{event_limit}
use Rattle.answer.specs.Codes.{code_of, IsAccepted, IsRefusedAtEvent}
use Rattle.answer.specs.Sheet.{Given}
use Rattle.event.specs.declared.Event.{Event}
use Rattle.decoder.specs.Item.{Item}
use Rattle.trace.specs.declared.Header.{Header}
use Rattle.trace.specs.File.{refused, recorded, file_of}
use Rattle.effect.specs.Memory.{Space}
use Rattle.effect.specs.Access.{Access, Has}
use Rattle.order.specs.Order.{◌∈◌}
use Rattle.rules.specs.Events.{accesses, event_at}
use Rattle.rules.specs.declared.Lengths.{Lengths}
use Rattle.rules.specs.Faults.{length_of, in_range, fault_of}
use Rattle.rules.specs.Closing.{is_operation, closed_by}
use Rattle.rules.specs.Orders.{Action, actions_of, PermittedOrder, CanComeEitherWay, happens_at}
use Rattle.rules.specs.Clashes.{EventsClash, Clean}
use Rattle.rules.specs.Peak.{open_after, peak}
use Rattle.rules.specs.Answers.{answer_of, lengths_in, answer_of_file, answer_of_events, Records}
use Rattle.rules.specs.Right.{WithinLimits, WellFormed, ClashingPair, Right}
use Rattle.rules.specs.Outcomes.{outcome}
use Rattle.rules.specs.Waited.{Waited, Extended}

-- ---- The orders.

-- Every list has a permitted order: that in which each operation acts as soon as it is started. So `actions_of` has each
-- action once.
unfoldable pub SomeOrder : Type 0
SomeOrder = (es : List Event) → PermittedOrder es (actions_of es)

-- An access of an event and one of a later event can come either way exactly when the earlier event starts an operation
-- and no event up to the later one, that one included, closes it.
unfoldable pub EitherWayWhileOpen : Type 0
EitherWayWhileOpen =
    (es : List Event) (i j : ℕ) (x y : Access) → i < j → j < length es
    → CanComeEitherWay es (happens_at i (event_at es i) x) (happens_at j (event_at es j) y)
    ↔ ((is_operation (event_at es i) ≡ true) × ((w : ℕ) → w ≤ j → closed_by es i w ≡ false))

-- A clash with an earlier event over the whole list is a clash over the list up to the later event.
unfoldable pub ClashUpTo : Type 0
ClashUpTo =
    (es : List Event) (i j : ℕ) → i < j → j < length es → EventsClash es i j ↔ EventsClash (take (suc j) es) i j

-- The test of the range says that every byte read or written lies inside its memory.
unfoldable pub RangeByBytes : Type 0
RangeByBytes =
    (lengths : Lengths) (e : Event)
    → (in_range lengths e ≡ true)
    ↔ ((x : Access) → x ∈ accesses e → (space : Space) (byte : ℕ) → Has x space byte → byte < length_of lengths space)

-- ---- Condition 2, the answer.

-- One answer is right for a list of items, and `answer_of` gives it.
unfoldable pub RightAnswer : Type 0
RightAnswer = (lengths : Lengths) (items : List Item) (a : Answer) → Right lengths items a ↔ (a ≡ answer_of lengths items)

-- Two answers that are right are equal.
unfoldable pub OneRightAnswer : Type 0
OneRightAnswer =
    (lengths : Lengths) (items : List Item) (a b : Answer) → Right lengths items a → Right lengths items b → a ≡ b

-- A file gets the refusal of its shape, or the right answer for its items under its memory lengths.
unfoldable pub RightAnswerOfFile : Type 0
RightAnswerOfFile =
    (f : List ℕ)
    → ((a : Answer) → file_of event_limit f ≡ refused a → answer_of_file f ≡ a)
    × ((header : Header) (items : List Item) → file_of event_limit f ≡ recorded header items
    → Right (lengths_in header) items (answer_of_file f))

-- Every answer is one that the sheet's reader gives.
unfoldable pub GivenAnswer : Type 0
GivenAnswer =
    ((lengths : Lengths) (items : List Item) → Given (answer_of lengths items))
    × ((f : List ℕ) → Given (answer_of_file f))

-- A list is accepted exactly when it is clean, and refused with a pair exactly when document 01 fixes that pair; there is
-- no third way.
pub record Exact (lengths : Lengths) (es : List Event) : Type 0 where
  pub accepted : (answer_of_events lengths es ≡ answer.Accepted (length es) (peak es (length es))) ↔ Clean es
  pub refused : (event partner : ℕ) → (answer_of_events lengths es ≡ answer.Clash event partner) ↔ ClashingPair es event partner
  pub no_third : Clean es ⊎ ((event : ℕ) × (partner : ℕ) × ClashingPair es event partner)

-- So it is for every well-formed list, and for each shorter list.
unfoldable pub Exactly : Type 0
Exactly =
    (lengths : Lengths) (es : List Event) → WellFormed lengths es
    → Exact lengths es × ((k : ℕ) → Exact lengths (take k es))

-- An accepted file holds events alone, which are well-formed and clean.
unfoldable pub AcceptedFile : Type 0
AcceptedFile =
    (f : List ℕ) → IsAccepted (answer_of_file f)
    → (lengths : Lengths) × (es : List Event) × Records f lengths (map Ok es) × WellFormed lengths es × Clean es

-- With a fault (5 to 9) the answer is that of the items before it if they are refused, else the fault, whatever follows.
unfoldable pub FirstFault : Type 0
FirstFault =
    (lengths : Lengths) (before : List Item) (bad : Item) (more : List Item) (fault : Answer)
    → WithinLimits lengths (length (before ++ bad ∷ more)) → fault_of lengths (length before) bad ≡ Some fault
    → (IsAccepted (answer_of lengths before) → answer_of lengths (before ++ bad ∷ more) ≡ fault)
    × (¬ IsAccepted (answer_of lengths before) → answer_of lengths (before ++ bad ∷ more) ≡ answer_of lengths before)

-- Peak is the largest number of operations open after any event, so at most n.
unfoldable pub PeakIsLargest : Type 0
PeakIsLargest =
    (es : List Event)
    → ((k : ℕ) → k < length es → open_after es (suc k) ≤ peak es (length es))
    × ((peak es (length es) ≡ 0) ⊎ ((k : ℕ) × (k < length es) × (peak es (length es) ≡ open_after es (suc k))))
    × (peak es (length es) ≤ length es)

-- ---- Condition 2, the bytes.

-- In an accepted list every permitted order gives each load the same bytes and leaves the same memories.
unfoldable pub SameBytes : Type 0
SameBytes =
    (lengths : Lengths) (es : List Event) → IsAccepted (answer_of_events lengths es)
    → (o₁ o₂ : List Action) → PermittedOrder es o₁ → PermittedOrder es o₂
    → (global shared : List ℕ) → outcome es global shared o₁ ≡ outcome es global shared o₂

-- The same of the events that an accepted file holds.
unfoldable pub SameBytesInFiles : Type 0
SameBytesInFiles =
    (f : List ℕ) (lengths : Lengths) (es : List Event)
    → Records f lengths (map Ok es) → IsAccepted (answer_of_file f)
    → (o₁ o₂ : List Action) → PermittedOrder es o₁ → PermittedOrder es o₂
    → (global shared : List ℕ) → outcome es global shared o₁ ≡ outcome es global shared o₂

-- ---- Condition 3.

-- Every permitted order of the one list gives each load the same bytes, and the same memories, as every one of the other.
abbrev pub GiveTheSame : List Event → List Event → Type 0
GiveTheSame es es' =
    (o o' : List Action) → PermittedOrder es o → PermittedOrder es' o'
    → (global shared : List ℕ) → outcome es' global shared o' ≡ outcome es global shared o

-- More waiting never harms: with waits added and numbers in waits lowered, an accepted list stays accepted, with the same
-- bytes.
unfoldable pub MoreWaiting : Type 0
MoreWaiting =
    (lengths : Lengths) (es es' : List Event) → Waited es es' → length es' ≤ event_limit
    → IsAccepted (answer_of_events lengths es) → IsAccepted (answer_of_events lengths es') × GiveTheSame es es'

-- The same of files.
unfoldable pub MoreWaitingInFiles : Type 0
MoreWaitingInFiles =
    (f f' : List ℕ) (lengths : Lengths) (es es' : List Event)
    → Records f lengths (map Ok es) → Records f' lengths (map Ok es') → Waited es es'
    → IsAccepted (answer_of_file f) → IsAccepted (answer_of_file f') × GiveTheSame es es'

-- More recording never pardons: a list refused at one of its events gets that same answer whatever items follow.
unfoldable pub MoreRecording : Type 0
MoreRecording =
    (lengths : Lengths) (items more : List Item) → length (items ++ more) ≤ event_limit
    → IsRefusedAtEvent (answer_of lengths items) → answer_of lengths (items ++ more) ≡ answer_of lengths items

-- The same of files: the longer one gets none of 2 to 4.
unfoldable pub MoreRecordingInFiles : Type 0
MoreRecordingInFiles =
    (f f' : List ℕ) → Extended f f' → within 2 4 (code_of (answer_of_file f')) ≡ false
    → IsRefusedAtEvent (answer_of_file f) → answer_of_file f' ≡ answer_of_file f
