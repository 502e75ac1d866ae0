-- What crosses the C boundary.
use Rattle.std.specs.Prelude.{ℕ, ◌≡◌, List}
use Rattle.answer.specs.declared.Answer.{Answer}
use Rattle.run.specs.Running.{Lent}
use Rattle.run.specs.Theorems.{RanFile}
use Rattle.word.specs.Word.{packed}

-- A run of this file, whose answer crosses as this word.
unfoldable pub RanAs : List ℕ → Lent → ℕ → Lent → Type 0
RanAs f before word after = (answer : Answer) × (word ≡ packed answer) × RanFile f before answer after
