-- What holds of a run. Each statement is a type; proofs/Theorems.antt proves it, as `one_run : OneRun`.
use Rattle.std.specs.Prelude.{ℕ, ◌≤◌, ◌≡◌, ◌⊎◌, List, map, length, Ok}
use Rattle.answer.specs.declared.Answer.{Answer}
use Rattle.answer.specs.Table.{event_limit}
use Rattle.answer.specs.Sheet.{Given}
use Rattle.answer.specs.Codes.{IsAccepted}
use Rattle.event.specs.declared.Event.{Event}
use Rattle.decoder.specs.Item.{Item}
use Rattle.trace.specs.File.{Contents, file_of}
use Rattle.trace.specs.Beginning.{held_of}
use Rattle.rules.specs.declared.Lengths.{Lengths}
use Rattle.rules.specs.Answers.{answer_of_file, Records}
use Rattle.rules.specs.Waited.{Waited}
use Rattle.run.specs.Running.{Lent, load_bytes, answer_of_run, Ran}

-- A run of this file over what is lent.
abbrev pub RanFile : List ℕ → Lent → Answer → Lent → Type 0
RanFile f before answer after = Ran (file_of event_limit f) before answer after

-- With these contents one answer and one outcome meet the promise of a run.
abbrev pub OneResult : Contents → Type 0
OneResult contents =
    (before : Lent) (a a' : Answer) (after after' : Lent)
    → Ran contents before a after → Ran contents before a' after' → (a ≡ a') × (after ≡ after')

-- So it is whatever bytes and length are handed over for a beginning and its file's, and with those of a file.
unfoldable pub OneRun : Type 0
OneRun =
    ((f : List ℕ) (total : ℕ) → OneResult (held_of event_limit f total)) × ((f : List ℕ) → OneResult (file_of event_limit f))

-- The answer of either is one that the sheet's reader gives.
unfoldable pub GivenInRuns : Type 0
GivenInRuns =
    ((f : List ℕ) (total : ℕ) (before : Lent) → Given (answer_of_run (held_of event_limit f total) before))
    × ((f : List ℕ) (before : Lent) → Given (answer_of_run (file_of event_limit f) before))

-- Over memories of the file's lengths a run answers as the judge does, wherever the loads fit or the judge refuses.
unfoldable pub AsJudged : Type 0
AsJudged =
    (f : List ℕ) (lengths : Lengths) (items : List Item) (before : Lent) → Records f lengths items
    → length before.global ≡ lengths.global → length before.shared ≡ lengths.shared
    → (load_bytes items ≤ length before.load_record) ⊎ (¬ IsAccepted (answer_of_file f))
    → answer_of_run (file_of event_limit f) before ≡ answer_of_file f

-- More waiting never harms: a file with waits added and numbers in waits lowered, over the same memories and room, is
-- accepted too, and leaves the same loads and memories.
unfoldable pub MoreWaitingInRuns : Type 0
MoreWaitingInRuns =
    (f f' : List ℕ) (lengths : Lengths) (es es' : List Event)
    → Records f lengths (map Ok es) → Records f' lengths (map Ok es') → Waited es es'
    → (before : Lent) (a a' : Answer) (after after' : Lent) → RanFile f before a after → RanFile f' before a' after'
    → IsAccepted a → IsAccepted a' × (after' ≡ after)
