-- What holds of the judge. Each statement is a type; proofs/Theorems.antt proves it, as `steps_answer : StepsAnswer`.
use Rattle.std.specs.Prelude.{ℕ, ◌*◌, ◌≤◌, ◌≡◌, false, List, [], ◌∷◌, length, take, None, IsSome}
use Rattle.answer.specs.Codes.{IsAccepted}
use Rattle.answer.specs.Sheet.{Given}
use Rattle.answer.specs.Table.{event_limit}
use Rattle.decoder.specs.Item.{Item}
use Rattle.trace.specs.Beginning.{enough}
use Rattle.rules.specs.declared.Lengths.{Lengths}
use Rattle.rules.specs.Answers.{answer_of, answer_of_file, Records}
use Rattle.judge.specs.declared.State.{State}
use Rattle.judge.specs.AsLeft.{place_length, AsLeft}
use Rattle.judge.specs.Step.{is_sound, opened, answer_in, goes_on, After, leaving, step_of}
use Rattle.judge.specs.Beginnings.{answer_of_beginning}

-- ---- The answers.

-- Steps for these items, one after the other.
abbrev pub steps : List Item → After → After
steps [] after = after
steps (item ∷ items) after = steps items (step_of item after.state after.ranges after.marks)

-- From the opening state on, with any places of the stated length or longer, the state tells the answer of the list so far.
-- Nothing is said here of what the judge keeps.
unfoldable pub StepsAnswer : Type 0
StepsAnswer =
    (lengths : Lengths) (items : List Item) (ranges marks : List ℕ)
    → place_length ≤ length ranges → place_length ≤ length marks
    → answer_in (steps items (leaving (opened lengths) ranges marks)).state ≡ answer_of lengths items

-- So a host that steps through the items of a file has the file's answer.
unfoldable pub StepsAnswerFiles : Type 0
StepsAnswerFiles =
    (f : List ℕ) (lengths : Lengths) (items : List Item) (ranges marks : List ℕ) → Records f lengths items
    → place_length ≤ length ranges → place_length ≤ length marks
    → answer_in (steps items (leaving (opened lengths) ranges marks)).state ≡ answer_of_file f

-- Enough first bytes of a file and its length tell its answer.
unfoldable pub BeginningAnswers : Type 0
BeginningAnswers =
    (file : List ℕ) (held : ℕ) → enough event_limit ≤ held
    → answer_of_beginning (take held file) (length file) ≡ answer_of_file file

-- Whatever bytes and length are handed over for a beginning and its file's, the answer is one that the sheet's reader gives.
unfoldable pub GivenOfBeginnings : Type 0
GivenOfBeginnings = (f : List ℕ) (total : ℕ) → Given (answer_of_beginning f total)

-- ---- The places. What a step does to their words is told in Places.antt.

-- A word has four bytes, and a place at most 64 KiB.
unfoldable pub PlacesFit : Type 0
PlacesFit = 4 * place_length ≤ 65536

-- ---- States and places that no judge leaves.

-- The answer is one that the sheet's writer takes.
unfoldable pub AnyStateAnswers : Type 0
AnyStateAnswers = (s : State) → Given (answer_in s)

-- Nothing is accepted where numbers are out of bounds, where something stands for a refusal, or after a step that does not judge,
-- be it for these or for places that are too short.
unfoldable pub FaultsShow : Type 0
FaultsShow =
    ((s : State) → is_sound s ≡ false → ¬ IsAccepted (answer_in s))
    × ((s : State) → IsSome s.refusal → ¬ IsAccepted (answer_in s))
    × ((item : Item) (s : State) (ranges marks : List ℕ) → goes_on s (length ranges) (length marks) ≡ false
    → ¬ IsAccepted (answer_in (step_of item s ranges marks).state))

-- The state without what it holds for a refusal.
abbrev pub without : State → State
without s = record s { refusal = None }

-- A state that the judge left after a refusal, and whose refusal got lost, is not accepted.
unfoldable pub LostRefusalsShow : Type 0
LostRefusalsShow =
    (lengths : Lengths) (items : List Item) (s : State) (ranges marks : List ℕ)
    → AsLeft lengths items s ranges marks → ¬ IsAccepted (answer_of lengths items)
    → ¬ IsAccepted (answer_in (without s))
