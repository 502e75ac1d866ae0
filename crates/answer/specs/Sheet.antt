-- The verdict sheet: twelve bytes, table first, the code last.
use Rattle.std.specs.Prelude.{ℕ, ◌≡◌, Bool, ◌&&◌, cond, List, [], ◌∷◌, ◌++◌, leb, eqb, length, drop}
use Rattle.little_endian.specs.Number.{Bytes, number_at, bytes_of}
use Rattle.answer.specs.declared.Answer.{Answer}
use Rattle.answer.specs.declared.Answer.TheVariants.{NoVerdict, Accepted, NotWritten}
use Rattle.answer.specs.declared.Numbers.{Numbers}
use Rattle.answer.specs.Numbers.{four, numbers_of, case_of}
use Rattle.answer.specs.Table.{fit}

-- Numbers in two bytes each, little-endian.
abbrev pub two_each : List ℕ → List ℕ
two_each [] = []
two_each (n ∷ ns) = bytes_of 2 n ++ two_each ns

-- The number in the two bytes from index i on.
abbrev pub two_at : List ℕ → ℕ → ℕ
two_at s i = number_at 2 s i

-- The numbers on a sheet, in order: the table (body at 4, 8 long), then event, partner, peak and code.
abbrev pub in_order : Numbers → List ℕ
in_order n = 4 ∷ 8 ∷ n.event ∷ n.partner ∷ n.peak ∷ n.code ∷ []

abbrev pub laid_out : Numbers → List ℕ
laid_out n = two_each (in_order n)

-- The sheet of an answer.
abbrev pub sheet_of : Answer → List ℕ
sheet_of answer = laid_out (numbers_of answer)

-- The code, event, partner and peak that stand on a sheet.
abbrev pub numbers_at : List ℕ → Numbers
numbers_at s = four (two_at s 10) (two_at s 4) (two_at s 6) (two_at s 8)

-- The input is exactly 12 bytes, the table is as shown, and the numbers fit.
unfoldable pub is_sheet : List ℕ → Bool
is_sheet s = eqb (length s) 12 && (eqb (two_at s 0) 4 && eqb (two_at s 2) 8 && fit (numbers_at s))

-- The reader gives no verdict for what is no sheet.
unfoldable pub read_of : List ℕ → Answer
read_of s = cond (is_sheet s) (case_of (numbers_at s)) NoVerdict

-- The reader gives this answer for some bytes, and it is a verdict.
abbrev pub Given : Answer → Type 0
Given a = (s : List ℕ) × Bytes s × (read_of s ≡ a) × ¬ (a ≡ NoVerdict)

-- At least 12 bytes are lent, and the answer is one that the reader gives.
unfoldable pub is_written : Answer → List ℕ → Bool
is_written answer out = leb 12 (length out) && fit (numbers_of answer)

-- When it has written the writer answers 1 with all numbers 0.
abbrev pub done : Answer
done = Accepted 0 0

unfoldable pub write_answer : Answer → List ℕ → Answer
write_answer answer out = cond (is_written answer out) done NotWritten

-- What the lent bytes hold afterwards: the sheet and the bytes past it, or all as they were.
unfoldable pub write_leaves : Answer → List ℕ → List ℕ
write_leaves answer out = cond (is_written answer out) (sheet_of answer ++ drop 12 out) out
