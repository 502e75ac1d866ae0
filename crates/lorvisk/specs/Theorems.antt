-- What holds of what crosses. Each statement is a type; proofs/Theorems.antt proves it, as `judged_word : JudgedWord`.
use Rattle.std.specs.Prelude.{ℕ, ◌^◌, ◌<◌, ◌≡◌, true, List, take}
use Rattle.answer.specs.Sheet.{read_of, is_written, write_leaves}
use Rattle.rules.specs.Answers.{answer_of_file}
use Rattle.run.specs.Running.{Lent}
use Rattle.run.specs.Theorems.{RanFile}
use Rattle.word.specs.Word.{packed, unpacked}
use Rattle.lorvisk.specs.Boundary.{RanAs}

-- A word that judging gives is the file's answer, and never 0.
unfoldable pub JudgedWord : Type 0
JudgedWord =
    (f : List ℕ) → (unpacked (packed (answer_of_file f)) ≡ answer_of_file f) × ¬ (packed (answer_of_file f) ≡ 0)

-- So is one that a run gives, and one word and one outcome meet the promise of a run.
unfoldable pub RanWord : Type 0
RanWord =
    (f : List ℕ) (before : Lent) (word : ℕ) (after : Lent) → RanAs f before word after
    → RanFile f before (unpacked word) after
    × ¬ (word ≡ 0)
    × ((word' : ℕ) (after' : Lent) → RanAs f before word' after' → (word ≡ word') × (after ≡ after'))

-- A written sheet reads back as the same word.
unfoldable pub SheetWord : Type 0
SheetWord =
    (word : ℕ) (out : List ℕ) → word < 2 ^ 64 → is_written (unpacked word) out ≡ true
    → packed (read_of (take 12 (write_leaves (unpacked word) out))) ≡ word
