-- The answer of a file, told by its beginning and its length. Theorem `BeginningAnswers` says that it is the file's.
use Rattle.std.specs.Prelude.{ℕ, List}
use Rattle.answer.specs.declared.Answer.{Answer}
use Rattle.answer.specs.Table.{event_limit}
use Rattle.trace.specs.Beginning.{held_of}
use Rattle.rules.specs.Answers.{answer_of_contents}

unfoldable pub answer_of_beginning : List ℕ → ℕ → Answer
answer_of_beginning f total = answer_of_contents (held_of event_limit f total)
