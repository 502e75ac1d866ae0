-- What holds of words. Each statement is a type; proofs/Theorems.antt proves it, as `unpacks : Unpacks`.
use Rattle.std.specs.Prelude.{ℕ, ◌+◌, ◌/◌, ◌%◌, ◌^◌, ◌<◌, ◌≡◌}
use Rattle.answer.specs.declared.Answer.{Answer}
use Rattle.answer.specs.declared.Answer.TheVariants.{NoVerdict}
use Rattle.answer.specs.Numbers.{four, numbers_of}
use Rattle.answer.specs.Codes.{code_of}
use Rattle.answer.specs.Sheet.{Given}
use Rattle.word.specs.Word.{packed, unpacked}

-- The word of an answer that the sheet's reader gives has 64 bits and gives the answer back.
unfoldable pub Unpacks : Type 0
Unpacks = (a : Answer) → Given a → (packed a < 2 ^ 64) × (unpacked (packed a) ≡ a)

-- A number of 64 bits that gives a verdict is that verdict's word.
unfoldable pub OneWord : Type 0
OneWord = (word : ℕ) (a : Answer) → word < 2 ^ 64 → unpacked word ≡ a → ¬ (a ≡ NoVerdict) → packed a ≡ word

-- 0 is no verdict, and no verdict's word.
unfoldable pub ZeroIsNoVerdict : Type 0
ZeroIsNoVerdict = (unpacked 0 ≡ NoVerdict) × (packed NoVerdict ≡ 0) × ((a : Answer) → Given a → ¬ (packed a ≡ 0))

-- The word of a verdict has its code in the lowest sixteen bits, then its event, its partner and its peak.
unfoldable pub NumbersInWord : Type 0
NumbersInWord =
    (a : Answer) → Given a
    → numbers_of a
    ≡ four (packed a % 2 ^ 16) (packed a / 2 ^ 16 % 2 ^ 16) (packed a / 2 ^ 32 % 2 ^ 16) (packed a / 2 ^ 48)

-- A word that is kept in sixteen bits, or any number more, still has its code: no cut makes an acceptance of a refusal.
unfoldable pub CutWord : Type 0
CutWord = (a : Answer) → Given a → (more : ℕ) → packed a % 2 ^ (more + 16) % 2 ^ 16 ≡ code_of a
