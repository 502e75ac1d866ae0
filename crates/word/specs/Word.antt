-- An answer as one number of 64 bits, its word: code, event, partner and peak in sixteen bits each, the code lowest.
use Rattle.std.specs.Prelude.{ℕ, ◌+◌, ◌*◌, ◌/◌, ◌%◌, ◌^◌, cond, List, [], ◌∷◌, ◌++◌}
use Rattle.little_endian.specs.Number.{number_at, bytes_of}
use Rattle.answer.specs.declared.Answer.{Answer}
use Rattle.answer.specs.Numbers.{numbers_of}
use Rattle.answer.specs.Table.{fit}
use Rattle.answer.specs.Sheet.{two_each, sheet_of, read_of}

-- The number in the eight bytes after the table of an answer's sheet: event, partner, peak and code, two bytes each, the
-- lowest first. 0 for an answer that no sheet holds.
unfoldable pub body_of : Answer → ℕ
body_of answer = cond (fit (numbers_of answer)) (number_at 8 (sheet_of answer) 4) 0

-- The sheet whose eight bytes after the table make this number.
abbrev pub sheet_with : ℕ → List ℕ
sheet_with body = two_each (4 ∷ 8 ∷ []) ++ bytes_of 8 body

-- A number of j + k bits, its lowest k bits put above the j others.
abbrev pub turned : ℕ → ℕ → ℕ → ℕ
turned j k n = n % 2 ^ k * 2 ^ j + n / 2 ^ k

-- The word of an answer: the other numbers above the code.
unfoldable pub packed : Answer → ℕ
packed answer = turned 16 48 (body_of answer)

-- The answer of a word: what the sheet with that body reads as.
unfoldable pub unpacked : ℕ → Answer
unpacked word = read_of (sheet_with (turned 48 16 word))
