-- Lists on both sides of each rule, with their answers, and what some lists give; first the wrong readings seen before.
use Rattle.std.specs.Prelude.{ℕ, ◌≡◌, List, [], ◌∷◌, map, replicate, Ok, Err}
use Rattle.answer.specs.declared.Answer.{Answer}
use Rattle.answer.specs.declared.Answer.TheVariants as answer
use Rattle.answer.specs.declared.Answer.TheVariants.{Accepted, TooManyEvents, WrongMemoryLength, Misaligned, OutOfRange, Clash}
use Rattle.event.specs.declared.ElementType.TheVariants.{U32, S32}
use Rattle.event.specs.declared.Event.{Event}
use Rattle.event.specs.declared.Event.TheVariants.{Commit, Wait, WaitAll, BulkCommit, BulkWait}
use Rattle.event.specs.declared.Mode.TheVariants.{Plain, SourceSize, SourceIgnored}
use Rattle.event.specs.declared.Operation.TheVariants.{Add}
use Rattle.rules.specs.declared.Lengths.{Lengths}
use Rattle.decoder.specs.Item.{Item}
use Rattle.decoder.specs.declared.Undecoded.TheVariants.{UnknownKind, WrongBodyLength, FieldNotAllowed}
use Rattle.rules.specs.Orders.{Action, turn, act, actions_of, PermittedOrder}
use Rattle.rules.specs.Answers.{answer_of}
use Rattle.rules.specs.Outcomes.{Outcome, outcome}
use Rattle.rules.specs.Samples.{lengths, copy_by, copy_of, short_copy, load_shared, load_global, store_global, store_shared, store_two, bulk_of, reduction, add_at}

-- A list of items under two memory lengths, and its answer.
pub record Example : Type 0 where
  pub answer : Answer
  pub memories : Lengths
  pub items : List Item

-- Items over memories of 16 bytes, events over them, and events over others.
abbrev items : Answer → List Item → Example
items answer list = record { answer = answer; memories = lengths 16 16; items = list }

abbrev events : Answer → List Event → Example
events answer es = items answer (map Ok es)

abbrev over : Answer → Lengths → List Event → Example
over answer memories es = record { answer = answer; memories = memories; items = map Ok es }

-- Of each a list that the wrong reading would answer otherwise.
unfoldable pub wrong_readings : List Example
wrong_readings =
    -- Taking a wait to close copies that nobody committed.
    events (Clash 2 0) (copy_of 4 0 ∷ Wait 0 ∷ copy_of 4 0 ∷ [])
    -- Dropping empty groups from the count of N.
    ∷ events (Accepted 5 1) (copy_of 4 0 ∷ Commit ∷ Commit ∷ Wait 1 ∷ load_shared 4 0 ∷ [])
    -- Treating commit order as byte order between groups.
    ∷ events (Clash 2 0) (copy_of 4 0 ∷ Commit ∷ copy_of 4 0 ∷ Commit ∷ Wait 0 ∷ [])
    -- Marking all cp-size source bytes as read when src-size is smaller.
    ∷ events (Accepted 2 1) (short_copy ∷ store_global 3 ∷ [])
    -- Letting address plus size wrap back into memory: 2^32 - 16 plus 16.
    ∷ events (OutOfRange 0) (load_global 16 4294967280 ∷ [])
    ∷ []

unfoldable pub examples : List Example
examples =
    -- Wait-all is a commit and then wait 0: it closes groups, and what is uncommitted.
    events (Accepted 5 2) (copy_of 4 0 ∷ Commit ∷ copy_of 4 4 ∷ WaitAll ∷ load_shared 8 0 ∷ [])
    -- N is any 32-bit number.
    ∷ events (Clash 3 0) (copy_of 4 0 ∷ Commit ∷ Wait 4294967295 ∷ load_shared 4 0 ∷ [])
    -- The bulk chain has its own groups, commit and wait; ..
    ∷ events (Accepted 4 1) (bulk_of 0 0 ∷ BulkCommit ∷ BulkWait 0 ∷ load_global 4 0 ∷ [])
    ∷ events (Clash 2 0) (bulk_of 0 0 ∷ BulkWait 0 ∷ load_global 4 0 ∷ [])
    ∷ events (Accepted 5 1) (bulk_of 0 0 ∷ BulkCommit ∷ BulkCommit ∷ BulkWait 1 ∷ load_global 4 0 ∷ [])
    -- .. neither chain's waits close the other's operations, nor do commits group them.
    ∷ events (Clash 3 0) (bulk_of 0 0 ∷ BulkCommit ∷ Wait 0 ∷ load_global 4 0 ∷ [])
    ∷ events (Clash 3 0) (bulk_of 0 0 ∷ Commit ∷ BulkWait 0 ∷ load_global 4 0 ∷ [])
    ∷ events (Clash 3 0) (copy_of 4 0 ∷ Commit ∷ BulkWait 0 ∷ load_shared 4 0 ∷ [])
    ∷ events (Clash 3 0) (copy_of 4 0 ∷ BulkCommit ∷ Wait 0 ∷ load_shared 4 0 ∷ [])
    -- Peak is the largest number of operations open after any event: it counts none that a wait has closed.
    ∷ events (Accepted 3 1) (copy_of 4 0 ∷ WaitAll ∷ copy_of 4 0 ∷ [])
    ∷ events (Accepted 4 2) (copy_of 4 0 ∷ copy_of 4 4 ∷ WaitAll ∷ copy_of 4 0 ∷ [])
    -- Accesses clash that share a byte ..
    ∷ events (Clash 1 0) (copy_of 4 0 ∷ store_shared 3 ∷ [])
    ∷ events (Accepted 2 1) (copy_of 4 0 ∷ store_shared 4 ∷ [])
    -- .. of one memory, ..
    ∷ events (Accepted 2 1) (copy_by Plain 4 8 0 ∷ store_global 8 ∷ [])
    -- .. at least one of which writes it, ..
    ∷ events (Accepted 2 1) (copy_of 4 0 ∷ load_global 4 0 ∷ [])
    ∷ events (Clash 1 0) (bulk_of 0 0 ∷ store_shared 15 ∷ [])
    ∷ events (Clash 1 0) (reduction Add U32 ∷ store_shared 15 ∷ [])
    -- .. unless both are reductions of one operation and one type. Signed and unsigned add therefore clash.
    ∷ events (Clash 1 0) (reduction Add U32 ∷ reduction Add S32 ∷ [])
    ∷ events (Clash 1 0) (reduction Add U32 ∷ bulk_of 0 0 ∷ [])
    -- Partner is the lowest such earlier event.
    ∷ events (Clash 2 0) (copy_of 4 0 ∷ copy_of 4 4 ∷ load_shared 8 0 ∷ [])
    -- A source of which no byte is read has no range check, and nothing clashes with it; ..
    ∷ events (Accepted 1 1) (copy_by SourceIgnored 4 0 4294967292 ∷ [])
    ∷ events (Accepted 1 1) (copy_by (SourceSize 0) 4 0 4294967292 ∷ [])
    ∷ events (Accepted 2 1) (copy_by SourceIgnored 4 0 0 ∷ store_global 0 ∷ [])
    ∷ over (Accepted 1 1) (lengths 3 4) (short_copy ∷ [])
    ∷ over (OutOfRange 0) (lengths 3 4) (copy_of 4 0 ∷ [])
    -- .. it is still aligned: copies to cp-size at both ends, ..
    ∷ events (Misaligned 0) (copy_by SourceIgnored 4 0 2 ∷ [])
    ∷ events (Misaligned 0) (copy_by Plain 4 2 0 ∷ [])
    -- .. bulk to 16 at both ends, ..
    ∷ events (Misaligned 0) (bulk_of 8 0 ∷ [])
    ∷ events (Misaligned 0) (bulk_of 0 8 ∷ [])
    ∷ events (Misaligned 0) (add_at 8 0 ∷ [])
    ∷ events (Misaligned 0) (add_at 0 8 ∷ [])
    -- .. thread accesses to their size.
    ∷ events (Misaligned 0) (load_shared 2 1 ∷ [])
    ∷ events (Misaligned 0) (store_two 1 ∷ [])
    ∷ events (Accepted 2 0) (load_shared 2 2 ∷ store_two 2 ∷ [])
    -- Every byte read or written lies inside its memory.
    ∷ events (Accepted 2 0) (load_shared 16 0 ∷ store_two 14 ∷ [])
    ∷ events (OutOfRange 0) (store_two 16 ∷ [])
    ∷ events (OutOfRange 0) (copy_by Plain 4 16 0 ∷ [])
    ∷ events (OutOfRange 0) (bulk_of 16 0 ∷ [])
    ∷ events (OutOfRange 0) (bulk_of 0 16 ∷ [])
    ∷ events (OutOfRange 0) (add_at 16 0 ∷ [])
    ∷ events (OutOfRange 0) (add_at 0 16 ∷ [])
    -- Each memory has its own length.
    ∷ over (Accepted 1 0) (lengths 16 8) (load_global 8 8 ∷ [])
    ∷ over (OutOfRange 0) (lengths 16 8) (load_shared 8 8 ∷ [])
    -- Each event is checked 5 to 10 in order: a field before alignment, that before range, and that before a clash.
    ∷ events (answer.FieldNotAllowed 0) (load_global 3 1 ∷ [])
    ∷ over (Misaligned 0) (lengths 8 8) (load_shared 8 4 ∷ [])
    ∷ over (OutOfRange 1) (lengths 16 8) (copy_of 4 0 ∷ load_shared 16 0 ∷ [])
    -- Events are judged in order; one that does not decode ends the judging at once.
    ∷ events (Clash 1 0) (copy_of 4 0 ∷ load_shared 4 0 ∷ load_global 3 1 ∷ [])
    ∷ items (answer.UnknownKind 1) (Ok Commit ∷ Err UnknownKind ∷ Ok (load_global 3 1) ∷ [])
    ∷ items (answer.WrongBodyLength 0) (Err WrongBodyLength ∷ Err UnknownKind ∷ [])
    ∷ items (answer.FieldNotAllowed 0) (Err FieldNotAllowed ∷ [])
    -- 3 comes before 4, and 4 before the events.
    ∷ over TooManyEvents (lengths 65537 0) (replicate 1025 Commit)
    ∷ over WrongMemoryLength (lengths 0 65537) (load_global 3 1 ∷ [])
    ∷ []

-- The definitions answer so.
abbrev pub answered : List Example → Type 0
answered list = map (λ x. answer_of x.memories x.items) list ≡ map (λ x. x.answer) list

unfoldable pub ReadRight : Type 0
ReadRight = answered wrong_readings

unfoldable pub BothSides : Type 0
BothSides = answered examples

-- Events, memories before them, and what the order gives in which each operation acts as soon as it is started.
pub record Run : Type 0 where
  pub events : List Event
  pub global : List ℕ
  pub shared : List ℕ
  pub gives : Outcome

abbrev run : List Event → List ℕ → List ℕ → List ℕ → List ℕ → List (List ℕ) → Run
run es g s g' s' read =
    record { events = es; global = g; shared = s; gives = record { global = g'; shared = s'; loads = read } }

unfoldable pub worked_runs : List Run
worked_runs =
    -- K1's events: the load has the bytes of the copy, and so has shared memory.
    run (copy_of 4 0 ∷ WaitAll ∷ load_shared 4 0 ∷ []) (1 ∷ 2 ∷ 3 ∷ 4 ∷ []) (9 ∷ 9 ∷ 9 ∷ 9 ∷ 9 ∷ [])
    (1 ∷ 2 ∷ 3 ∷ 4 ∷ []) (1 ∷ 2 ∷ 3 ∷ 4 ∷ 9 ∷ []) ((1 ∷ 2 ∷ 3 ∷ 4 ∷ []) ∷ [])
    -- An operation still open at the end acts then.
    ∷ run (short_copy ∷ []) (1 ∷ 2 ∷ 3 ∷ 4 ∷ []) (9 ∷ 9 ∷ 9 ∷ 9 ∷ []) (1 ∷ 2 ∷ 3 ∷ 4 ∷ []) (1 ∷ 2 ∷ 3 ∷ 0 ∷ []) []
    -- Each load reads at its turn.
    ∷ run (load_global 2 0 ∷ store_global 1 ∷ load_global 2 0 ∷ []) (1 ∷ 2 ∷ []) [] (1 ∷ 9 ∷ []) []
    ((1 ∷ 2 ∷ []) ∷ (1 ∷ 9 ∷ []) ∷ [])
    ∷ []

unfoldable pub RunsGive : Type 0
RunsGive =
    map (λ r. outcome r.events r.global r.shared (actions_of r.events)) worked_runs
    ≡ map (λ r. r.gives) worked_runs

-- K2.
abbrev pub unwaited : List Event
unwaited = copy_of 4 0 ∷ load_shared 4 0 ∷ []

abbrev pub loads_by : List Action → List (List ℕ)
loads_by order = (outcome unwaited (1 ∷ 2 ∷ 3 ∷ 4 ∷ []) (9 ∷ 9 ∷ 9 ∷ 9 ∷ []) order).loads

-- In one permitted order its load has the bytes of the copy, in another those that stood there before.
unfoldable pub CopyMayNotHaveLanded : Type 0
CopyMayNotHaveLanded =
    PermittedOrder unwaited (turn 0 ∷ act 0 ∷ turn 1 ∷ [])
    × (loads_by (turn 0 ∷ act 0 ∷ turn 1 ∷ []) ≡ (1 ∷ 2 ∷ 3 ∷ 4 ∷ []) ∷ [])
    × PermittedOrder unwaited (turn 0 ∷ turn 1 ∷ act 0 ∷ [])
    × (loads_by (turn 0 ∷ turn 1 ∷ act 0 ∷ []) ≡ (9 ∷ 9 ∷ 9 ∷ 9 ∷ []) ∷ [])
