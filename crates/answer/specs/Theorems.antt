-- What holds of answers and sheets. Each statement is a type; proofs/Theorems.antt proves it, as `reads_back : ReadsBack`.
use Rattle.std.specs.Prelude.{ℕ, ◌-◌, ◌≤◌, ◌≡◌, true, false, List, [], ◌∷◌, ◌++◌, length, take, drop, replicate}
use Rattle.little_endian.specs.Number.{Bytes}
use Rattle.answer.specs.declared.Answer.{Answer}
use Rattle.answer.specs.declared.Answer.TheVariants.{NoVerdict, Accepted, Clash, NotWritten}
use Rattle.answer.specs.Numbers.{numbers_of}
use Rattle.answer.specs.Sheet.{sheet_of, numbers_at, is_sheet, read_of, Given, done, write_answer, write_leaves}

-- A sheet's first k bytes, followed by zeros to 12.
abbrev pub cut : ℕ → List ℕ → List ℕ
cut k s = take k s ++ replicate (12 - k) 0

-- Answers with the same numbers are the same.
unfoldable pub NumbersTellApart : Type 0
NumbersTellApart = (a b : Answer) → numbers_of a ≡ numbers_of b → a ≡ b

-- A sheet reads as the one answer that has its numbers, and all else as no verdict.
unfoldable pub ReadsTheNumbers : Type 0
ReadsTheNumbers =
    (s : List ℕ) → (is_sheet s ≡ true → numbers_of (read_of s) ≡ numbers_at s) × (is_sheet s ≡ false → read_of s ≡ NoVerdict)

-- What was written reads back as the same answer.
unfoldable pub ReadsBack : Type 0
ReadsBack = (a : Answer) (out : List ℕ) → write_answer a out ≡ done → read_of (take 12 (write_leaves a out)) ≡ a

-- Cut short at any byte, the rest zero, a sheet reads as no verdict or as the whole answer, never as another.
unfoldable pub CutSheet : Type 0
CutSheet =
    (a : Answer) → Given a → (k : ℕ) → k ≤ 12
    → (k ≤ 10 → read_of (cut k (sheet_of a)) ≡ NoVerdict) × (11 ≤ k → read_of (cut k (sheet_of a)) ≡ a)

-- Fewer or more than 12 bytes read as no verdict.
unfoldable pub OtherLengths : Type 0
OtherLengths = (s : List ℕ) → ¬ (length s ≡ 12) → read_of s ≡ NoVerdict

-- Bytes that read as an answer are the one sheet of that answer.
unfoldable pub OneSheet : Type 0
OneSheet = (s : List ℕ) (a : Answer) → Bytes s → read_of s ≡ a → ¬ (a ≡ NoVerdict) → s ≡ sheet_of a

-- The writer writes exactly where 12 bytes are lent and the reader gives the answer; else it answers 12.
unfoldable pub WritesWhatIsGiven : Type 0
WritesWhatIsGiven =
    (a : Answer) (out : List ℕ)
    → ((12 ≤ length out) × Given a → write_answer a out ≡ done)
    × (¬ ((12 ≤ length out) × Given a) → write_answer a out ≡ NotWritten)

-- The bytes past the twelfth stay, and a refusal leaves all.
unfoldable pub KeepsTheRest : Type 0
KeepsTheRest =
    (a : Answer) (out : List ℕ)
    → (length (write_leaves a out) ≡ length out)
    × (drop 12 (write_leaves a out) ≡ drop 12 out)
    × (write_answer a out ≡ NotWritten → write_leaves a out ≡ out)

-- The two sheets that document 01 shows.
unfoldable pub DocumentSheets : Type 0
DocumentSheets =
    (read_of (4 ∷ 0 ∷ 8 ∷ 0 ∷ 3 ∷ 0 ∷ 0 ∷ 0 ∷ 1 ∷ 0 ∷ 1 ∷ 0 ∷ []) ≡ Accepted 3 1)
    × (read_of (4 ∷ 0 ∷ 8 ∷ 0 ∷ 1 ∷ 0 ∷ 0 ∷ 0 ∷ 0 ∷ 0 ∷ 10 ∷ 0 ∷ []) ≡ Clash 1 0)
